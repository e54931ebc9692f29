use Rattle.std.proofs.Common.{◌∙◌, ap}
use Rattle.std.proofs.lemmas.List.{get_or_default}
use Rattle.mca_io.proofs.Files.{content_set, content_push}
use Rattle.mca_io.proofs.mem_shelf.put_file.Goals as goal

pub returns-in-Some-clause-ok : goal.returns-in-Some-clause-ok
returns-in-Some-clause-ok c =
    let place = rw c.deref.ensures.value at c.in-Some.ensures.place in
    content_set c.args.files.now.items c.args.name.now c.in-Some.place _ place.0 place.1 place.2 (ap (λ file. file.name) (c.index_mut.ensures.value ∙ get_or_default c.args.files.now.items c.in-Some.place _ _ place.0))

pub returns-in_ok-push-in-None-clause-ok : goal.returns-in_ok-push-in-None-clause-ok
returns-in_ok-push-in-None-clause-ok c =
    let none = rw c.deref.ensures.value at c.in-None.ensures.place in
    λ n. rw c.in_ok-push-in-None.ensures.items (content_push c.args.files.now.items c.args.name.now _ (c.from_string-name.ensures ∙ c.in_ok-from_str-in-None.ensures.ok) none n)
