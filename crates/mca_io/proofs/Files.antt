-- Looking a file up after a file was put in its place or added at the end.
use Rattle.std.proofs.Common.{◌≡◌, ℕ, ◌<◌, List, [], ◌∷◌, ◌++◌, length, get_or, set, Bool, true, false, cond, nat_eq, Some, None, sym, refl, ◌∙◌, ap, subst, arith, length-append, length-set, get_or-set_same, get_or-set_other}
use Rattle.std.proofs.Math.Seq.{get_or-append_seam}
use Rattle.std.proofs.lemmas.List.{get_or_append_left}
use Rattle.std.proofs.lemmas.List.Recursion.{found_at, found_nowhere, found_set_other, found_push_other}
use Rattle.std.specs.Cmp.Lexicographic.{pointwise, same_text}
use Rattle.mca_io.specs.MemShelf.{content_of, no_file, NoneBefore}
use Rattle.mca_io.specs.declared.mem_shelf.MemFile.{MemFile}

abbrev named : List ℕ → MemFile → Bool
named name file = pointwise nat_eq file.name name

-- the first file with the name is the one looked up
pub content_at : (files : List MemFile) (name : List ℕ) (k : ℕ) → k < length files → pointwise nat_eq (get_or files k no_file).name name ≡ true → NoneBefore files name k → content_of files name ≡ Some (get_or files k no_file).bytes
content_at files name k within is none = found_at (λ fs. content_of fs name) (named name) (λ file. Some file.bytes) None refl (λ _ _. refl) files k no_file within none is

-- where no file has the name, none is found
pub content_nowhere : (files : List MemFile) (name : List ℕ) → NoneBefore files name (length files) → content_of files name ≡ None
content_nowhere files name none = found_nowhere (λ fs. content_of fs name) (named name) (λ file. Some file.bytes) None refl (λ _ _. refl) files no_file none

-- the look-up of another name after a file took the place of one with its own name
other_set : (files : List MemFile) (name n : List ℕ) (k : ℕ) (file : MemFile) → (get_or files k no_file).name ≡ name → file.name ≡ name → pointwise nat_eq name n ≡ false → content_of (set files k file) n ≡ content_of files n
other_set files name n k file was is other = found_set_other (λ fs. content_of fs n) (named n) (λ f. Some f.bytes) None refl (λ _ _. refl) files k file no_file (rw was other) (rw is other)

same_set : (files : List MemFile) (name : List ℕ) (k : ℕ) (file : MemFile) → k < length files → pointwise nat_eq file.name name ≡ true → NoneBefore files name k → content_of (set files k file) name ≡ Some file.bytes
same_set files name k file within is none =
    let at : get_or (set files k file) k no_file ≡ file = get_or-set_same files k file no_file within in
    content_at (set files k file) name k (omega (arith, length-set files k file)) (subst (λ f. pointwise nat_eq f.name name ≡ true) (sym at) is) (λ j below. subst (λ f. pointwise nat_eq f.name name ≡ false) (sym (get_or-set_other files k j file no_file (omega arith))) (none j below)) ∙ ap (λ f. Some f.bytes) at

-- the look-up of any name after a file took the place of the first one with its name
pub content_set : (files : List MemFile) (name : List ℕ) (k : ℕ) (file : MemFile) → k < length files → pointwise nat_eq (get_or files k no_file).name name ≡ true → NoneBefore files name k → file.name ≡ (get_or files k no_file).name → (n : List ℕ) → content_of (set files k file) n ≡ cond (pointwise nat_eq name n) (Some file.bytes) (content_of files n)
content_set files name k file within is none kept n = go (pointwise nat_eq name n) refl
  where
    was : (get_or files k no_file).name ≡ name
    was = same_text _ _ (sym is)

    go : (b : Bool) → pointwise nat_eq name n ≡ b → content_of (set files k file) n ≡ cond b (Some file.bytes) (content_of files n)
    go true e = subst (λ m. content_of (set files k file) m ≡ Some file.bytes) (same_text name n (sym e)) (same_set files name k file within (subst (λ m. pointwise nat_eq m name ≡ true) (sym kept) is) none)
    go false e = other_set files name n k file was (kept ∙ was) e

same_push : (files : List MemFile) (name : List ℕ) (file : MemFile) → pointwise nat_eq file.name name ≡ true → NoneBefore files name (length files) → content_of (files ++ file ∷ []) name ≡ Some file.bytes
same_push files name file is none =
    let at : get_or (files ++ file ∷ []) (length files) no_file ≡ file = get_or-append_seam files file [] no_file in
    content_at (files ++ file ∷ []) name (length files) (omega (arith, length-append files (file ∷ []))) (subst (λ f. pointwise nat_eq f.name name ≡ true) (sym at) is) (λ j below. subst (λ f. pointwise nat_eq f.name name ≡ false) (sym (get_or_append_left files (file ∷ []) no_file j below)) (none j below)) ∙ ap (λ f. Some f.bytes) at

-- the look-up of any name after a file with a new name was added
pub content_push : (files : List MemFile) (name : List ℕ) (file : MemFile) → file.name ≡ name → NoneBefore files name (length files) → (n : List ℕ) → content_of (files ++ file ∷ []) n ≡ cond (pointwise nat_eq name n) (Some file.bytes) (content_of files n)
content_push files name file named none n = go (pointwise nat_eq name n) refl
  where
    go : (b : Bool) → pointwise nat_eq name n ≡ b → content_of (files ++ file ∷ []) n ≡ cond b (Some file.bytes) (content_of files n)
    go true e =
        let same : name ≡ n = same_text name n (sym e) in
        let own : pointwise nat_eq file.name name ≡ true = subst (λ m. pointwise nat_eq m name ≡ true) (sym named) (subst (λ m. pointwise nat_eq name m ≡ true) (sym same) e) in
        subst (λ m. content_of (files ++ file ∷ []) m ≡ Some file.bytes) same (same_push files name file own none)
    go false e = found_push_other (λ fs. content_of fs n) (λ f. pointwise nat_eq f.name n) (λ f. Some f.bytes) None refl (λ _ _. refl) files file (rw named e)
