-- How many picks a longer log has.
use Rattle.std.proofs.Common.{◌≡◌, ◌+◌, List, [], ◌∷◌, ◌++◌, ap, ◌∙◌, arith}
use Rattle.nvme_log.specs.declared.event.Event.{Event}
use Rattle.nvme_log.specs.declared.event.Event.TheVariants.{Pick}
use Rattle.nvme_log.specs.Histories.{picks_in}

-- the picks of two lists of events are those of both
pub picks_in-append : (xs ys : List Event) → picks_in (xs ++ ys) ≡ picks_in xs + picks_in ys
picks_in-append [] ys = omega arith
picks_in-append (Pick seen pick ∷ xs) ys = let h = picks_in-append xs ys in omega (arith, h)
picks_in-append (e ∷ xs) ys = picks_in-append xs ys

-- an event that is no pick adds none
pub picks_in-push : (xs : List Event) (e : Event) → picks_in (e ∷ []) ≡ 0 → picks_in (xs ++ e ∷ []) ≡ picks_in xs
picks_in-push xs e none = let h = picks_in-append xs (e ∷ []) in omega (arith, h, none)

-- a log after an event that is no pick was noted
pub picks-noted : (a b c : List Event) (e : Event) → b ≡ a → c ≡ b ++ e ∷ [] → picks_in (e ∷ []) ≡ 0 → picks_in c ≡ picks_in a
picks-noted a b c e same noted none = ap picks_in noted ∙ picks_in-push b e none ∙ ap picks_in same
