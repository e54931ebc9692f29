-- texts that are cut at a byte which their parts lack
use Rattle.std.proofs.Common.{◌≡◌, ℕ, Bool, true, false, ◌&&◌, not, nat_eq, cond, List, [], ◌∷◌, ◌++◌, length, codes, refl, sym, ap, ◌∙◌, subst, append_assoc, append-nil, arith}
use Rattle.std.specs.List.{list_all}
use Rattle.std.proofs.lemmas.Bool.Decides.{nat_tests}
use Rattle.std.proofs.lemmas.List.Folds.{list_all-append}
use Rattle.rv_isa.specs.Spelling.{behind}

pub both : (a b : Bool) → a && b ≡ true → (a ≡ true) × (b ≡ true)
both true b h = (refl, h)
both false b h = cc

pub join : (a b : Bool) → a ≡ true → b ≡ true → a && b ≡ true
join a b p q = rw (p, q)

-- the byte is not in the text
abbrev pub lacks : ℕ → List ℕ → Bool
lacks c text = list_all (λ b. not (nat_eq b c)) text

pub lacks-append : (c : ℕ) (xs ys : List ℕ) → lacks c xs ≡ true → lacks c ys ≡ true → lacks c (xs ++ ys) ≡ true
lacks-append c xs ys p q = list_all-append (λ b. not (nat_eq b c)) xs ys ∙ join (lacks c xs) (lacks c ys) p q

apart : (b c : ℕ) → not (nat_eq b c) ≡ true → b ≡ c → ⊥
apart b c h e = grind (arith, nat_tests)

lacks_not : (c : ℕ) (xs ys : List ℕ) → lacks c (xs ++ c ∷ ys) ≡ true → ⊥
lacks_not c [] ys h = apart c c (both (not (nat_eq c c)) (lacks c ys) h).0 refl
lacks_not c (x ∷ xs) ys h = lacks_not c xs ys (both (not (nat_eq x c)) (lacks c (xs ++ c ∷ ys)) h).1

-- at the first such byte
pub cut_first : (c : ℕ) (xs ys us vs : List ℕ) → lacks c xs ≡ true → lacks c ys ≡ true → xs ++ c ∷ us ≡ ys ++ c ∷ vs → (xs ≡ ys) × (us ≡ vs)
cut_first c [] [] us vs p q e = (refl, cc)
cut_first c [] (y ∷ ys) us vs p q e =
    let same : y ≡ c = cc in
    absurd (apart y c (both (not (nat_eq y c)) (lacks c ys) q).0 same)
cut_first c (x ∷ xs) [] us vs p q e =
    let same : x ≡ c = cc in
    absurd (apart x c (both (not (nat_eq x c)) (lacks c xs) p).0 same)
cut_first c (x ∷ xs) (y ∷ ys) us vs p q e =
    let head : x ≡ y = cc in
    let tail : xs ++ c ∷ us ≡ ys ++ c ∷ vs = cc in
    let rest = cut_first c xs ys us vs (both (not (nat_eq x c)) (lacks c xs) p).1 (both (not (nat_eq y c)) (lacks c ys) q).1 tail in
    let first : xs ≡ ys = rest.0 in
    (cc, rest.1)

-- at the last such byte
pub cut_last : (c : ℕ) (xs ys us vs : List ℕ) → lacks c us ≡ true → lacks c vs ≡ true → xs ++ c ∷ us ≡ ys ++ c ∷ vs → (xs ≡ ys) × (us ≡ vs)
cut_last c [] [] us vs p q e = (refl, cc)
cut_last c [] (y ∷ ys) us vs p q e =
    let tail : us ≡ ys ++ c ∷ vs = cc in
    absurd (lacks_not c ys vs (subst (λ text. lacks c text ≡ true) tail p))
cut_last c (x ∷ xs) [] us vs p q e =
    let tail : xs ++ c ∷ us ≡ vs = cc in
    absurd (lacks_not c xs us (subst (λ text. lacks c text ≡ true) (sym tail) q))
cut_last c (x ∷ xs) (y ∷ ys) us vs p q e =
    let head : x ≡ y = cc in
    let tail : xs ++ c ∷ us ≡ ys ++ c ∷ vs = cc in
    let rest = cut_last c xs ys us vs p q tail in
    let first : xs ≡ ys = rest.0 in
    (cc, rest.1)

-- what is in front of the first such byte
abbrev pub until : ℕ → List ℕ → List ℕ
until c [] = []
until c (b ∷ bs) = cond (nat_eq b c) [] (b ∷ until c bs)

pub until_all : (c : ℕ) (xs : List ℕ) → lacks c xs ≡ true → until c (xs ++ []) ≡ xs
until_all c [] h = refl
until_all c (x ∷ xs) h =
    let other : nat_eq x c ≡ false = grind (arith, nat_tests, both (not (nat_eq x c)) (lacks c xs) h) in
    rw other (ap (λ rest. x ∷ rest) (until_all c xs (both (not (nat_eq x c)) (lacks c xs) h).1))

pub until_cut : (c : ℕ) (xs ys : List ℕ) → lacks c xs ≡ true → until c (xs ++ c ∷ ys) ≡ xs
until_cut c [] ys h = let same : nat_eq c c ≡ true = grind (arith, nat_tests) in rw same refl
until_cut c (x ∷ xs) ys h =
    let other : nat_eq x c ≡ false = grind (arith, nat_tests, both (not (nat_eq x c)) (lacks c xs) h) in
    rw other (ap (λ rest. x ∷ rest) (until_cut c xs ys (both (not (nat_eq x c)) (lacks c xs) h).1))

pub append_cancel : (s xs ys : List ℕ) → s ++ xs ≡ s ++ ys → xs ≡ ys
append_cancel [] xs ys e = e
append_cancel (b ∷ s) xs ys e = append_cancel s xs ys (let tail : s ++ xs ≡ s ++ ys = cc in tail)

-- operands without a comma are told apart by what is written behind the mnemonic
pub behind_same : (s : List ℕ) (ts us : List (List ℕ)) → length ts ≡ length us → list_all (lacks 44) ts ≡ true → list_all (lacks 44) us ≡ true
    → behind s ts ≡ behind s us → ts ≡ us
behind_same s [] [] n p q e = refl
behind_same s [] (u ∷ us) n p q e = absurd (omega arith)
behind_same s (t ∷ ts) [] n p q e = absurd (omega arith)
behind_same s (t ∷ []) (u ∷ []) n p q e =
    let whole : t ++ [] ≡ u ++ [] = append_cancel s (t ++ []) (u ++ []) (sym (append_assoc s t []) ∙ e ∙ append_assoc s u []) in
    ap (λ x. x ∷ []) (sym (append-nil t) ∙ whole ∙ append-nil u)
behind_same s (t ∷ []) (u ∷ v ∷ us) n p q e = absurd (omega arith)
behind_same s (t ∷ r ∷ ts) (u ∷ []) n p q e = absurd (omega arith)
behind_same s (t ∷ r ∷ ts) (u ∷ v ∷ us) n p q e =
    let a = behind (codes ", ") (r ∷ ts) in
    let b = behind (codes ", ") (v ∷ us) in
    let whole : t ++ a ≡ u ++ b = append_cancel s (t ++ a) (u ++ b) (sym (append_assoc s t a) ∙ e ∙ append_assoc s u b) in
    let left = both (lacks 44 t) (list_all (lacks 44) (r ∷ ts)) p in
    let right = both (lacks 44 u) (list_all (lacks 44) (v ∷ us)) q in
    let cut = cut_first 44 t u (32 ∷ (r ++ behind (codes ", ") ts)) (32 ∷ (v ++ behind (codes ", ") us)) left.0 right.0 whole in
    let first : t ≡ u = cut.0 in
    let rest : r ∷ ts ≡ v ∷ us = behind_same (codes ", ") (r ∷ ts) (v ∷ us) (omega arith) left.1 right.1 (ap (λ x. 44 ∷ x) cut.1) in
    cc
