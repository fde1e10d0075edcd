-- What comes back from joined threads.
use Rattle.std.proofs.Common.{◌≡◌, List, [], ◌∷◌, ◌++◌, map, refl, sym, ap, ◌∙◌, subst, append_assoc, append-nil}
use Rattle.std.proofs.lemmas.List.{map-append}
use Rattle.std.specs.List.{All, AllZip}
use Rattle.std.specs.Prelude.{Result, Ok, Err, IfOk, IfErr}
use Rattle.std.proofs.lemmas.List.Elements.{All-nil, All-cons, All-head, All-tail}

-- one more item was moved, from what is left of a first list to those of a list
pub moved-out : {X Y : Type 0} (e : X → Y) (outs outs' : List Y) (x : X) (y : Y) (left left' : List X) (all : List Y) → outs' ≡ outs ++ y ∷ [] → left ≡ x ∷ left' → e x ≡ y
    → outs ++ map e left ≡ all → outs' ++ map e left' ≡ all
moved-out e outs outs' x y left left' all more first is was =
    ap (λ ys. ys ++ map e left') more ∙ append_assoc outs (y ∷ []) (map e left') ∙ ap (λ z. outs ++ z ∷ map e left') (sym is) ∙ ap (λ xs. outs ++ map e xs) (sym first) ∙ was

-- what is seen of each stayed the same, so it did of all
pub seen-zip : {T Y : Type 0} (f : T → Y) (ts rs : List T) → AllZip (λ t r. f r ≡ f t) ts rs → map f rs ≡ map f ts
seen-zip f [] [] same = refl
seen-zip f [] (r ∷ rs) same = absurd same
seen-zip f (t ∷ ts) [] same = absurd same
seen-zip f (t ∷ ts) (r ∷ rs) same =
    let one : f r ≡ f t = same.0 in
    let more : map f rs ≡ map f ts = seen-zip f ts rs same.1 in
    cc

-- those that came back are related to the same tasks under another name
pub zip-of : {T : Type 0} (R : T → T → Type 0) (ms ts rs : List T) → ms ≡ ts → AllZip R ms rs → AllZip R ts rs
zip-of {T} R ms ts rs same zip = subst (λ (xs : List T). AllZip R xs rs) same zip

-- one more item was moved, from what is left of a list to those that a second list was made of
pub moved-one : {X Y : Type 0} (e : X → Y) (hs hs' : List X) (h : X) (y : Y) (left left' all : List Y) → hs' ≡ hs ++ h ∷ [] → left ≡ y ∷ left' → e h ≡ y → map e hs ++ left ≡ all
    → map e hs' ++ left' ≡ all
moved-one e hs hs' h y left left' all more first is was =
    ap (λ xs. map e xs ++ left') more ∙ ap (λ ys. ys ++ left') (map-append e hs (h ∷ [])) ∙ append_assoc (map e hs) (e h ∷ []) left' ∙ ap (λ z. map e hs ++ z ∷ left') is
    ∙ ap (λ ys. map e hs ++ ys) (sym first) ∙ was

-- what holds of all that is seen holds of all by what is seen of it
pub all-unmapped : {X Y : Type 0} (P : Y → Type 0) (f : X → Y) (xs : List X) → All P (map f xs) → All (λ x. P (f x)) xs
all-unmapped P f [] all = All-nil (λ x. P (f x))
all-unmapped P f (x ∷ xs) all = All-cons (λ y. P (f y)) x xs (All-head P (f x) (map f xs) all) (all-unmapped P f xs (All-tail P (f x) (map f xs) all))

-- one more handle was joined, from what is left of a list to those that were joined
pub moved-handle : {X Y : Type 0} (e : X → Y) (ended : List Y) (x : X) (left left' : List X) (all : List Y) → left ≡ x ∷ left' → ended ++ map e left ≡ all
    → (ended ++ e x ∷ []) ++ map e left' ≡ all
moved-handle e ended x left left' all first was = append_assoc ended (e x ∷ []) (map e left') ∙ ap (λ xs. ended ++ map e xs) (sym first) ∙ was

-- what holds of an answer's value, where that value is known
pub ok-holds : {T E : Type 0} (r : Result T E) (P : T → Type 0) (x : T) → r ≡ Ok x → IfOk r P → P x
ok-holds r P x is holds = subst (λ a. IfOk a P) is holds

-- what holds of an answer's error, where that error is known
pub err-holds : {T E : Type 0} (r : Result T E) (P : E → Type 0) (e : E) → r ≡ Err e → IfErr r P → P e
err-holds r P e is holds = subst (λ a. IfErr a P) is holds

-- what follows from what holds of an answer's value
pub ok-so : {T E : Type 0} (r : Result T E) (P Q : T → Type 0) → IfOk r P → ((x : T) → P x → Q x) → IfOk r Q
ok-so (Ok x) P Q holds so = so x holds
ok-so (Err e) P Q holds so = tt

-- what follows from what holds after some errors
pub err-if : {T E : Type 0} (r : Result T E) (N : E → Type 0) (W H : Type 0) → IfErr r (λ e. N e → W) → (W → H) → IfErr r (λ e. N e → H)
err-if (Ok x) N W H holds so = tt
err-if (Err e) N W H holds so = λ n. so (holds n)

-- what follows from what holds of an answer's value, and of another answer's that has a value where this one has
pub both-ok : {T U E : Type 0} (r : Result T E) (ended : Result U E) (P Q : T → Type 0) (H : Type 0) → IfOk r (λ _. (done : U) × (ended ≡ Ok done)) → IfOk ended (λ _. H) → IfOk r P
    → ((x : T) → H → P x → Q x) → IfOk r Q
both-ok (Ok x) ended P Q H done holds is so = so x (ok-holds ended (λ _. H) done.0 done.1 holds) is
both-ok (Err e) ended P Q H done holds is so = tt

-- nothing is left of a list, so all was moved
pub all-moved : {Y : Type 0} (outs left all : List Y) → left ≡ [] → outs ++ left ≡ all → outs ≡ all
all-moved outs left all none was = sym (append-nil outs) ∙ ap (λ ys. outs ++ ys) (sym none) ∙ was
