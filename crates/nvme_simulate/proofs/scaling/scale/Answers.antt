use Rattle.std.proofs.Common.{rules, arith, ◌≡◌, ◌∙◌, refl, sym, ap, subst, ℕ, ◌+◌, ◌-◌, ◌<◌, List, ◌++◌, map, length, get_or, set, take, drop, Some}
use Rattle.std.specs.Prelude.{slice_get}
use Rattle.std.proofs.lemmas.List.{map-set, get_or-map, get_or-append_right, get_or-drop, length-map, length-take}
use Rattle.std.proofs.lemmas.List.Edits.{map_over_more}
use Rattle.std.proofs.lemmas.Option.{slice_get_read}
use Rattle.nvme_model.specs.declared.queue.Queue.{Queue}
use Rattle.nvme_model_form.specs.Views.{Asking, asking_of}
use Rattle.nvme_simulate.specs.Scaling.{scaled_asking}
use Rattle.nvme_simulate.proofs.scaling.scale.Goals as goal

-- what a queue asks for that was read at its place
asked_here : (queues : List Queue) (place : ℕ) (queue : Queue) → place < length queues → queue ≡ get_or queues place queue
    → asking_of queue ≡ get_or (map asking_of queues) place (asking_of queue)
asked_here queues place queue within is = ap asking_of is ∙ sym (get_or-map asking_of queues place queue (asking_of queue) within)

-- where those before a place are changed and the others stay, the one at the place is still the old one
still_old : {X : Type 0} (f : X → X) (xs ys : List X) (i : ℕ) (x : X) → i < length xs → ys ≡ map f (take i xs) ++ drop i xs → x ≡ get_or ys i x → slice_get xs i ≡ Some x
still_old f xs ys i x within so_far here =
    let before : length (map f (take i xs)) ≡ i = simp (length-map, length-take) (omega arith) in
    let behind : get_or (map f (take i xs) ++ drop i xs) i x ≡ get_or (drop i xs) (i - i) x =
    get_or-append_right (map f (take i xs)) (drop i xs) i i x before (omega arith) in
    let read : get_or (drop i xs) (i - i) x ≡ get_or xs i x = get_or-drop i xs (i - i) x ∙ ap (λ k. get_or xs k x) (omega arith) in
    slice_get_read xs (length xs) i x refl within (here ∙ ap (λ zs. get_or zs i x) so_far ∙ behind ∙ read)

-- src/scaling.rt:113:5
pub loop-place-preserved : goal.loop-place-preserved
loop-place-preserved c =
    let f : Asking → Asking = scaled_asking c.args.ratio.offered c.args.ratio.target in
    let changed : asking_of c.scale_one.new.queue ≡ f (asking_of c.index-queues-place.result) = search rules in
    let first : c.loop-place.place < length c.args.queues.now = search rules in
    let within : c.loop-place.place < length c.loop-place.queues = search rules in
    map-set asking_of c.loop-place.queues c.loop-place.place c.scale_one.new.queue
    ∙ ap (λ a. set (map asking_of c.loop-place.queues) c.loop-place.place a) changed
    ∙ map_over_more f (map asking_of c.args.queues.now) (map asking_of c.loop-place.queues) c.loop-place.place (asking_of c.index-queues-place.result)
    (subst (λ n. c.loop-place.place < n) (sym (length-map c.args.queues.now asking_of)) first) c.loop-place.invariant
    (asked_here c.loop-place.queues c.loop-place.place c.index-queues-place.result within c.index-queues-place.is)

pub returns-then-is_none-clause-err : goal.returns-then-is_none-clause-err
returns-then-is_none-clause-err c =
    let f : Asking → Asking = scaled_asking c.args.ratio.offered c.args.ratio.target in
    let olds : List Asking = map asking_of c.args.queues.now in
    let asked : Asking = asking_of c.index-queues-place.result in
    let first : c.loop-place.place < length c.args.queues.now = search rules in
    let within : c.loop-place.place < length c.loop-place.queues = search rules in
    let there : slice_get olds c.loop-place.place ≡ Some asked =
    still_old f olds (map asking_of c.loop-place.queues) c.loop-place.place asked
    (subst (λ n. c.loop-place.place < n) (sym (length-map c.args.queues.now asking_of)) first) c.loop-place.invariant
    (asked_here c.loop-place.queues c.loop-place.place c.index-queues-place.result within c.index-queues-place.is) in
    (c.loop-place.place + 1, refl, record { place = c.loop-place.place; number_is = refl; queue = asked; is_there = there; long = search rules })
