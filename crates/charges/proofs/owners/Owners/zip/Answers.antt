use Rattle.std.proofs.Common.{◌≡◌, List, [], ◌∷◌, ◌++◌, zip, ap, sym, refl, ◌∙◌, ⊎_elim, append-nil}
use Rattle.std.proofs.lemmas.Slice.Zip.{either_empty_from_Zip}
use Rattle.std.specs.Iterator.Adapters.{zip_first, zip_second}
use Rattle.std.specs.Slice.Iter.{iter_rest}
use Rattle.charges.specs.Owners.{items_of}
use Rattle.charges.proofs.owners.Owners.zip.Goals as goal

zip-nothing : {A B : Type 0} (xs : List A) (ys : List B) → ys ≡ [] → zip xs ys ≡ []
zip-nothing [] ys e = refl
zip-nothing (x ∷ xs) ys e = rw e refl

pub returns : goal.returns
returns g c =
    let all : zip (items_of c.args.self.now) (items_of c.args.others.now) ≡ items_of c.loop-one.pairs ++ zip (iter_rest (zip_first c.loop-one.one-iterator)) (iter_rest (zip_second c.loop-one.one-iterator)) = cc in
    let left : zip (iter_rest (zip_first c.loop-one.one-iterator)) (iter_rest (zip_second c.loop-one.one-iterator)) ≡ [] =
    ⊎_elim
    (λ e. rw e refl)
    (λ e. zip-nothing _ _ e)
    (either_empty_from_Zip c.loop-one.one-iterator c.next.new.self c.next.result c.in-None.is c.next.ensures.steps)
    in
    sym (all ∙ ap (λ rest. items_of c.loop-one.pairs ++ rest) left ∙ append-nil _)
