-- Reports go on a page one behind another; one that has no room makes the whole too long.
use Rattle.std.proofs.Common.{zero, suc, ◌≡◌, ℕ, ◌+◌, ◌-◌, ◌*◌, ◌<◌, ◌≤◌, inl, inr, List, [], ◌∷◌, ◌++◌, append_assoc, length, map, Ok, Err, false, nat_eq, sym, ◌∙◌, ap, add-one, subst, refl, arith}
use Rattle.std.specs.List.{All}
use Rattle.std.specs.Prelude.{IfErr, OnOk, Option}
use Rattle.std.specs.declared.result.Result.{Result}
use Rattle.std.proofs.Math.Seq.{get_or-append_seam}
use Rattle.std.proofs.Math.ListN.{get_or-append}
use Rattle.std.proofs.lemmas.Bool.{cases_eq}
use Rattle.std.proofs.lemmas.Bool.Decides.{nat_tests}
use Rattle.std.proofs.lemmas.List.{append-nil, length-append}
use Rattle.cycle_rules.specs.Below.{sum_below}
use Rattle.cycle_rules.specs.Bind.{row_of}
use Rattle.cycle_rules.specs.Run.{IsRun}
use Rattle.cycle_rules.specs.declared.bound.Bound.{Bound}
use Rattle.cycle_rules.specs.declared.times.Times.{Times}
use Rattle.cycle_rules.proofs.RunEnds.{run_ends}
use Rattle.machine_model.specs.Meaning.{MachineMeaning}
use Rattle.machine_model.specs.Valid.{IsValidMachine}
use Rattle.mca_fixed.specs.declared.limits.TheConstants.{MOST_ROWS, MOST_REPORT_BYTES}
use Rattle.mca_views.specs.Fault.{Over}
use Rattle.mca_views.specs.Lines.{lines}
use Rattle.mca_views.specs.Page.{Written, added}
use Rattle.mca_views.specs.Region.{region_lines}
use Rattle.mca_views.specs.Shown.{Shown, IsShown}
use Rattle.mca_views.specs.Bottleneck.{IsAsked as IsSequenceFor}
use Rattle.mca_views.proofs.SomeSequence.{asked_exists}
use Rattle.critical_chain.specs.declared.graph.Chain.{Chain}
use Rattle.mca_views.specs.declared.fault.ViewFault.{ViewFault}
use Rattle.mca_views.specs.declared.fault.ViewFault.TheVariants as no_room
use Rattle.mca_views.proofs.RanShown.{run_is_shown}
use Rattle.mca_views.proofs.Texts.{lines_append}
use Rattle.mca_words.specs.declared.options.Options.{Options}
use Rattle.rv_asm.specs.Spellable.{IsSpellable}
use Rattle.rv_isa.specs.declared.instr.Instr.{Instr}
use Rattle.mca_run.specs.Asked.{iterations_of}
use Rattle.mca_run.specs.Regions.{region_at, code_at}
use Rattle.mca_run.specs.Refusal.{rows_at}
use Rattle.mca_run.specs.Steps.{IsSound, IsBodyOf, AreBodies, body_at, gap, IsOver, IsOverAll}
use Rattle.mca_run.specs.Whole.{shown_at, IsRegionReport, IsWholeReport, behind_gaps, with_gaps, report_at}
use Rattle.mca_run.specs.declared.program.Program.{Program}
use Rattle.mca_run.proofs.MachineSteps.{some_iterations, spellable_at, some_code}

-- Lines

behind_more : (reports : List (List (List ℕ))) (r : List (List ℕ)) → behind_gaps (reports ++ r ∷ []) ≡ behind_gaps reports ++ [] ∷ r
behind_more [] r = ap (λ ls. [] ∷ ls) (append-nil r)
behind_more (x ∷ reports) r = ap (λ ls. [] ∷ ls) (ap (λ ls. x ++ ls) (behind_more reports r) ∙ sym (append_assoc x (behind_gaps reports) ([] ∷ r)))

later_gap : (k : ℕ) → 0 < k → gap k ≡ [] ∷ []
later_gap k some = let test : nat_eq k 0 ≡ false = grind (arith, nat_tests, some) in rw test refl

with_more : (reports : List (List (List ℕ))) (r : List (List ℕ)) → with_gaps (reports ++ r ∷ []) ≡ with_gaps reports ++ (gap (length reports) ++ r)
with_more [] r = append-nil r
with_more (x ∷ reports) r =
    ap (λ ls. x ++ ls) (behind_more reports r) ∙ sym (append_assoc x (behind_gaps reports) ([] ∷ r))
    ∙ ap (λ g. (x ++ behind_gaps reports) ++ (g ++ r)) (sym (later_gap (length (x ∷ reports)) (omega arith)))

-- A page with the reports of the first regions

pub record HasReports (m : MachineMeaning) (o : Options) (p : Program) (k : ℕ) (page : Written) : Type 0 where
  pub reports : List (List (List ℕ))
  pub count : length reports ≡ k
  pub each : (j : ℕ) → j < k → IsRegionReport m o p j (report_at reports j)
  pub page_is : page ≡ record { text = lines (with_gaps reports); open_line = []; room = MOST_REPORT_BYTES }

pub no_reports : (m : MachineMeaning) (o : Options) (p : Program) (page : Written) → page ≡ record { text = []; open_line = []; room = MOST_REPORT_BYTES } → HasReports m o p 0 page
no_reports m o p page is = record { reports = []; count = refl; each = λ j none. absurd (omega (arith, none)); page_is = is }

pub one_more : (m : MachineMeaning) (o : Options) (p : Program) (k : ℕ) (page next : Written) (r : List (List ℕ)) → HasReports m o p k page → IsRegionReport m o p k r → next ≡ added page (lines (gap k ++ r)) → HasReports m o p (k + 1) next
one_more m o p k page next r h is put = record {
  reports = h.reports ++ r ∷ [];
  count = length-append h.reports (r ∷ []) ∙ ap (λ n. n + 1) h.count;
  each = λ j below. elim (cases_eq j k) [
    | inl here ↦ subst (λ n. IsRegionReport m o p n (report_at (h.reports ++ r ∷ []) n)) (sym here)
        (subst (λ x. IsRegionReport m o p k x) (sym (ap (λ n. report_at (h.reports ++ r ∷ []) n) (sym h.count) ∙ get_or-append_seam h.reports r [] [])) is)
    | inr other ↦ (let before : j < k = omega (arith, below, other) in
        subst (λ x. IsRegionReport m o p j x) (sym (get_or-append h.reports (r ∷ []) [] j (omega (arith, before, h.count)))) (h.each j before))
  ];
  page_is = put ∙ ap (λ q. added q (lines (gap k ++ r))) h.page_is
      ∙ ap (λ t. record { text = t; open_line = []; room = MOST_REPORT_BYTES })
      (sym (lines_append (with_gaps h.reports) (gap k ++ r)) ∙ ap (λ n. lines (with_gaps h.reports ++ (gap n ++ r))) (sym h.count) ∙ ap lines (sym (with_more h.reports r)));
}

pub whole_is : (m : MachineMeaning) (o : Options) (p : Program) (k : ℕ) (page : Written) → k ≡ length p.regions → HasReports m o p k page → IsWholeReport m o p page.text
whole_is m o p k page all h = record {
  reports = h.reports;
  count = h.count ∙ all;
  each = λ j below. h.each j (omega (arith, below, all));
  bytes = ap (λ (q : Written). q.text) h.page_is;
}

pub is_closed : (m : MachineMeaning) (o : Options) (p : Program) (k : ℕ) (page : Written) → HasReports m o p k page → page.open_line ≡ []
is_closed m o p k page h = ap (λ (q : Written). q.open_line) h.page_is

-- What a region's views show

pub is_shown : (numbers size : ℕ) (m : MachineMeaning) (o : Options) (p : Program) (k n : ℕ) (code : List Instr) (names : List (List ℕ)) (body : List Bound) (table : List Times) → IsValidMachine numbers size m → IsSound p → k < length p.regions
    → code ≡ code_at p k → names ≡ p.names → n ≡ iterations_of o → rows_at p (iterations_of o) k ≤ MOST_ROWS → IsBodyOf m (code_at p k) body → IsRun m (map row_of body) n table
    → IsShown (record { machine = m; code = code; names = names; body = body; iterations = n; table = table })
is_shown numbers size m o p k n code names body table valid sound within code_is names_is times_is rows h run =
    let spellable : All (IsSpellable names) code = subst (λ c. All (IsSpellable names) c) (sym code_is) (subst (λ ns. All (IsSpellable ns) (code_at p k)) (sym names_is) (spellable_at p k sound)) in
    let many : length body ≡ length (code_at p k) = h.many in
    run_is_shown numbers size (record { machine = m; code = code; names = names; body = body; iterations = n; table = table }) (record {
      machine = valid;
      lawful = λ j d lt. (spellable j d lt).lawful;
      named = λ j d lt. (spellable j d lt).named;
      some = subst (λ c. 0 < length c) (sym code_is) (some_code p k sound within);
      entries = many ∙ ap length (sym code_is);
      bound = h.bound;
      iterations = some_iterations o n times_is;
      few = subst (λ l. n * l ≤ MOST_ROWS) (sym many) (subst (λ i. i * length (code_at p k) ≤ MOST_ROWS) (sym times_is) rows);
      run = run;
    })

-- Each region has a report, since its body has a run, and that has a critical sequence

abbrev pub Reported : MachineMeaning → Options → Program → Type 0
Reported m o p = (k : ℕ) → k < length p.regions → (report : List (List ℕ)) × IsRegionReport m o p k report

pub all_reported : (numbers size : ℕ) (m : MachineMeaning) (o : Options) (p : Program) (bodies : List (List Bound)) → IsValidMachine numbers size m → IsSound p → AreBodies m p (length p.regions) bodies
    → ((k : ℕ) → k < length p.regions → rows_at p (iterations_of o) k ≤ MOST_ROWS) → Reported m o p
all_reported numbers size m o p bodies valid sound are rows = λ k within.
    (let body = body_at bodies k in
    let run = run_ends numbers size m body (iterations_of o) valid (are.each k within).bound in
    let shows : IsShown (shown_at m o p k body run.0) = is_shown numbers size m o p k (iterations_of o) (code_at p k) p.names body run.0 valid sound within refl refl refl (rows k within) (are.each k within) run.1 in
    let asked = asked_exists numbers size o (shown_at m o p k body run.0) valid shows (are.each k within).bound run.1 in (
      region_lines k (region_at p k).name o (shown_at m o p k body run.0) asked.0,
      record { body = body; bound = (are.each k within).exact; table = run.0; run = run.1; chain = asked.0; sequence = asked.1; lines = refl },
    ))

-- The rest of a report

record Longer (m : MachineMeaning) (o : Options) (p : Program) (k : ℕ) (page : Written) : Type 0 where
  last : Written
  has : HasReports m o p k last
  longer : length page.text ≤ length last.text

rest : (m : MachineMeaning) (o : Options) (p : Program) (left k : ℕ) (page : Written) → Reported m o p → k + left ≡ length p.regions → HasReports m o p k page → Longer m o p (k + left) page
rest m o p zero k page all end h = record { last = page; has = (let same : k ≡ k + 0 = omega arith in subst (λ n. HasReports m o p n page) same h); longer = omega arith }
rest m o p (suc left) k page all end h =
    let r = all k (omega (arith, end)) in
    let next : Written = added page (lines (gap k ++ r.0)) in
    let more : HasReports m o p (k + 1) next = one_more m o p k page next r.0 h r.1 refl in
    let later : Longer m o p (k + 1 + left) next = rest m o p left (k + 1) next all (omega (arith, end)) more in
    let same : k + 1 + left ≡ k + suc left = omega arith in
    let grown : length next.text ≡ length page.text + length (lines (gap k ++ r.0)) = length-append page.text (lines (gap k ++ r.0)) in
    record { last = later.last; has = subst (λ n. HasReports m o p n later.last) same later.has; longer = omega (arith, grown, later.longer) }

-- a report that has no room makes the whole too long
pub over_all : (m : MachineMeaning) (o : Options) (p : Program) (k : ℕ) (page : Written) (fault : ViewFault) → Reported m o p → k < length p.regions → HasReports m o p k page → IsOver m o p k page fault → IsOverAll m o p fault
over_all m o p k page no_room.TooLong all within h (report, is, long) =
    let next : Written = added page (lines (gap k ++ report)) in
    let more : HasReports m o p (k + 1) next = one_more m o p k page next report h is refl in
    let end : k + 1 + (length p.regions - (k + 1)) ≡ length p.regions = omega (arith, within) in
    let whole : Longer m o p (k + 1 + (length p.regions - (k + 1))) next = rest m o p (length p.regions - (k + 1)) (k + 1) next all end more in
    let room : page.room ≡ MOST_REPORT_BYTES = ap (λ (q : Written). q.room) h.page_is in
    (whole.last.text, whole_is m o p _ whole.last end whole.has, omega (arith, room, long, whole.longer))
over_all m o p k page no_room.Memory all within h over = tt

-- The report of one region

-- an empty line that has no room
pub gap_over : (m : MachineMeaning) (o : Options) (p : Program) (k : ℕ) (page : Written) (report : List (List ℕ)) (fault : ViewFault) → IsRegionReport m o p k report → Over page.room (length (added page (lines (gap k))).text) fault → IsOver m o p k page fault
gap_over m o p k page report no_room.TooLong is over =
    let text : lines (gap k ++ report) ≡ lines (gap k) ++ lines report = lines_append (gap k) report in
    (report, is, omega (arith, over, ap length text, length-append (lines (gap k)) (lines report), length-append page.text (lines (gap k)), length-append page.text (lines (gap k ++ report))))
gap_over m o p k page report no_room.Memory is over = tt

behind_gap : (k : ℕ) (page : Written) (report : List (List ℕ)) → added (added page (lines (gap k))) (lines report) ≡ added page (lines (gap k ++ report))
behind_gap k page report = ap (λ t. record { text = t; open_line = []; room = page.room }) (append_assoc page.text (lines (gap k)) (lines report) ∙ ap (λ l. page.text ++ l) (sym (lines_append (gap k) report)))

pub report_put : (k : ℕ) (page between next : Written) (report : List (List ℕ)) → between ≡ added page (lines (gap k)) → next ≡ added between (lines report) → next ≡ added page (lines (gap k ++ report))
report_put k page between next report first second = second ∙ ap (λ q. added q (lines report)) first ∙ behind_gap k page report

pub report_over : (m : MachineMeaning) (o : Options) (p : Program) (k : ℕ) (page between : Written) (report : List (List ℕ)) (fault : ViewFault) → IsRegionReport m o p k report → between ≡ added page (lines (gap k))
    → Over between.room (length (added between (lines report)).text) fault → IsOver m o p k page fault
report_over m o p k page between report no_room.TooLong is first over =
    let room : between.room ≡ page.room = ap (λ (q : Written). q.room) first in
    let text : length (added between (lines report)).text ≡ length (added page (lines (gap k ++ report))).text = ap (λ (q : Written). length q.text) (report_put k page between (added between (lines report)) report first refl) in
    (report, is, omega (arith, over, room, text))
report_over m o p k page between report no_room.Memory is first over = tt

-- Turns

pub sum_next : (n : ℕ) (f : ℕ → ℕ) → sum_below (n + 1) f ≡ sum_below n f + f n
unfolding sum_below
sum_next n f = rw add-one refl

pub sum_grows : (left n : ℕ) (f : ℕ → ℕ) → sum_below n f ≤ sum_below (n + left) f
sum_grows zero n f = let same : n ≡ n + 0 = omega arith in let e : sum_below n f ≡ sum_below (n + 0) f = ap (λ k. sum_below k f) same in omega (arith, e)
sum_grows (suc left) n f =
    let h = sum_grows left n f in
    let same : n + left + 1 ≡ n + suc left = omega arith in
    let e : sum_below (n + left + 1) f ≡ sum_below (n + suc left) f = ap (λ k. sum_below k f) same in
    omega (arith, h, e, sum_next (n + left) f)

pub sum_to : (n end : ℕ) (f : ℕ → ℕ) → n ≤ end → sum_below n f ≤ sum_below end f
sum_to n end f le = let same : n + (end - n) ≡ end = omega (arith, le) in subst (λ k. sum_below n f ≤ sum_below k f) same (sum_grows (end - n) n f)

-- The report of a region, by what the code has

shown_same : (m : MachineMeaning) (o : Options) (p : Program) (k n : ℕ) (code : List Instr) (names : List (List ℕ)) (body : List Bound) (table : List Times) → code ≡ code_at p k → names ≡ p.names → n ≡ iterations_of o
    → record { machine = m; code = code; names = names; body = body; iterations = n; table = table } ≡ shown_at m o p k body table
shown_same m o p k n code names body table code_is names_is times_is = λ i. record { machine = m; code = code_is i; names = names_is i; body = body; iterations = times_is i; table = table }

region_report : (m : MachineMeaning) (o : Options) (p : Program) (k n : ℕ) (s : Shown) (body : List Bound) (table : List Times) (chain : Option Chain) → IsBodyOf m (code_at p k) body → n ≡ iterations_of o → IsRun m (map row_of body) n table
    → s ≡ shown_at m o p k body table → IsSequenceFor o s chain
    → IsRegionReport m o p k (region_lines k (region_at p k).name o (shown_at m o p k body table) chain)
region_report m o p k n s body table chain h times_is run same asked = record {
  body = body;
  bound = h.exact;
  table = table;
  run = subst (λ i. IsRun m (map row_of body) i table) times_is run;
  chain = chain;
  sequence = subst (λ x. IsSequenceFor o x chain) same asked;
  lines = refl;
}

-- the lines of what the code has
view_lines : (m : MachineMeaning) (o : Options) (p : Program) (k : ℕ) (name : List ℕ) (s : Shown) (body : List Bound) (table : List Times) (chain : Option Chain) → name ≡ (region_at p k).name → s ≡ shown_at m o p k body table
    → region_lines k name o s chain ≡ region_lines k (region_at p k).name o (shown_at m o p k body table) chain
view_lines m o p k name s body table chain name_is same = λ i. region_lines k (name_is i) o (same i) chain

pub gap_fails : (m : MachineMeaning) (o : Options) (p : Program) (k n : ℕ) (code : List Instr) (names : List (List ℕ)) (body : List Bound) (table : List Times) (chain : Option Chain) (page : Written) (fault : ViewFault)
    → code ≡ code_at p k → names ≡ p.names → n ≡ iterations_of o → IsBodyOf m (code_at p k) body → IsRun m (map row_of body) n table
    → IsSequenceFor o (record { machine = m; code = code; names = names; body = body; iterations = n; table = table }) chain
    → Over page.room (length (page.text ++ lines (gap k))) fault → IsOver m o p k page fault
gap_fails m o p k n code names body table chain page fault code_is names_is times_is h run asked over =
    gap_over m o p k page _ fault (region_report m o p k n _ body table chain h times_is run (shown_same m o p k n code names body table code_is names_is times_is) asked) over

pub put_ok : {A E : Type 0} (m : MachineMeaning) (o : Options) (p : Program) (k n : ℕ) (code : List Instr) (names : List (List ℕ)) (name : List ℕ) (body : List Bound) (table : List Times) (chain : Option Chain) (page between next : Written) (r : Result A E)
    → code ≡ code_at p k → names ≡ p.names → name ≡ (region_at p k).name → n ≡ iterations_of o → IsBodyOf m (code_at p k) body → IsRun m (map row_of body) n table
    → IsSequenceFor o (record { machine = m; code = code; names = names; body = body; iterations = n; table = table }) chain → between ≡ added page (lines (gap k))
    → OnOk r (next ≡ added between (lines (region_lines k name o (record { machine = m; code = code; names = names; body = body; iterations = n; table = table }) chain)))
    → OnOk r ((report : List (List ℕ)) × IsRegionReport m o p k report × (next ≡ added page (lines (gap k ++ report))))
put_ok m o p k n code names name body table chain page between next (Ok x) code_is names_is name_is times_is h run asked first put =
    let same = shown_same m o p k n code names body table code_is names_is times_is in
    (_, region_report m o p k n _ body table chain h times_is run same asked, report_put k page between next _ first (put ∙ ap (λ ls. added between (lines ls)) (view_lines m o p k name _ body table chain name_is same)))
put_ok m o p k n code names name body table chain page between next (Err e) code_is names_is name_is times_is h run asked first put = tt

pub put_err : {A : Type 0} (m : MachineMeaning) (o : Options) (p : Program) (k n : ℕ) (code : List Instr) (names : List (List ℕ)) (name : List ℕ) (body : List Bound) (table : List Times) (chain : Option Chain) (page between : Written) (r : Result A ViewFault)
    → code ≡ code_at p k → names ≡ p.names → name ≡ (region_at p k).name → n ≡ iterations_of o → IsBodyOf m (code_at p k) body → IsRun m (map row_of body) n table
    → IsSequenceFor o (record { machine = m; code = code; names = names; body = body; iterations = n; table = table }) chain → between ≡ added page (lines (gap k))
    → IfErr r (Over between.room (length (added between (lines (region_lines k name o (record { machine = m; code = code; names = names; body = body; iterations = n; table = table }) chain))).text))
    → IfErr r (IsOver m o p k page)
put_err m o p k n code names name body table chain page between (Ok x) code_is names_is name_is times_is h run asked first over = tt
put_err m o p k n code names name body table chain page between (Err e) code_is names_is name_is times_is h run asked first over =
    let same = shown_same m o p k n code names body table code_is names_is times_is in
    report_over m o p k page between _ e (region_report m o p k n _ body table chain h times_is run same asked) first
    (subst (λ ls. Over between.room (length (added between (lines ls)).text) e) (view_lines m o p k name _ body table chain name_is same) over)
