-- what the end of a statement leaves
use Rattle.std.proofs.Common.{◌≡◌, ℕ, List, [], ◌++◌, ◌∙◌, ap}
use Rattle.std.specs.declared.option.Option.{Option}
use Rattle.rv_asm.specs.declared.fault.Fault.{Fault}
use Rattle.rv_asm.specs.declared.item.Item.{Item}
use Rattle.rv_asm.specs.Meaning.{meaning}
use Rattle.rv_asm.specs.Faults.{earlier, least}
use Rattle.rv_asm.specs.Items.{items_at, names_at, faults_at}
use Rattle.rv_asm.specs.Steps.{Known, ended}

pub ended_is : (s : Known) (text body : List ℕ) (names : List (List ℕ)) (more all marks : List Item) (fault own : Option Fault) → text ≡ s.text
    → more ≡ s.items ++ items_at s.begun s.names (meaning text) → names ≡ names_at s.names (meaning text) → fault ≡ least (faults_at s.begun (meaning text))
    → own ≡ earlier s.own fault → all ≡ more ++ s.marks → marks ≡ [] → body ≡ []
    → let t : Known = record { line = s.line; begun = 0; text = body; marks = marks; names = names; items = all; bad = s.bad; own = own; comment = s.comment; unclosed = s.unclosed } in t ≡ ended s
ended_is s text body names more all marks fault own is_text is_more is_names is_fault is_own is_all is_marks is_body i =
    record {
      line = s.line;
      begun = 0;
      text = is_body i;
      marks = is_marks i;
      names = (is_names ∙ ap (λ t. names_at s.names (meaning t)) is_text) i;
      items = (is_all ∙ ap (λ t. t ++ s.marks) (is_more ∙ ap (λ t. s.items ++ items_at s.begun s.names (meaning t)) is_text)) i;
      bad = s.bad;
      own = (is_own ∙ ap (earlier s.own) (is_fault ∙ ap (λ t. least (faults_at s.begun (meaning t))) is_text)) i;
      comment = s.comment;
      unclosed = s.unclosed;
    }
