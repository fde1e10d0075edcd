use Rattle.std.proofs.Common.{◌≡◌, ◌∙◌, ℕ, ◌+◌, ◌-◌, ◌<◌, Some, get_or, length, nat_le, refl, sym, ap, arith}
use Rattle.std.specs.Prelude.{slice_get, slice_set}
use Rattle.std.proofs.lemmas.List.{length-set}
use Rattle.std.proofs.lemmas.Option.{slice_get-get_or}
use Rattle.nvme_simulation.specs.Ranks.{next_stage}
use Rattle.nvme_simulation.specs.Waiting.{waits_at}
use Rattle.nvme_simulation.specs.declared.flight.Flight.{Flight}
use Rattle.nvme_simulation.specs.declared.flight.Flights.{Flights}
use Rattle.nvme_simulation.specs.declared.flight.Stage.TheVariants.{Came}
use Rattle.nvme_simulation.proofs.Moves.{moves}
use Rattle.nvme_simulation.proofs.Waiting.{first_waits, ordered_more}
use Rattle.nvme_simulation.proofs.flight.Flights.submit.Goals as goal

pub invariant_of-self : goal.invariant_of-self
invariant_of-self c =
    let f : Flights = c.args.self.now in
    let x : Flight = c.index_mut-flight.result.now in
    let within : c.in_ok-place.place < length f.kept.items = omega (arith, c.in_ok-place.ensures.within, f.kept.ok.0) in
    let is : f.next ≡ f.first + c.in_ok-place.place = omega (arith, c.in_ok-place.ensures.from.0, c.in_ok-place.ensures.from.1) in
    let next : c.in_ok-next.next ≡ f.next + 1 = c.in_ok-next.ensures.1 in
    let ordered : (k : ℕ) → k < length (slice_set f.kept.items c.in_ok-place.place c.go_on.new.self)
    → waits_at (slice_set f.kept.items c.in_ok-place.place c.go_on.new.self) k ≡ nat_le (f.next + 1) (f.first + k) =
    ordered_more f.first f.next f.kept.items c.in_ok-place.place x c.go_on.new.self f.ordered is within c.go_on.ensures.stage in
    record {
      behind = omega (arith, f.behind, next);
      within = omega (arith, next, is, within, length-set f.kept.items c.in_ok-place.place c.go_on.new.self);
      ordered = λ k l. ordered k l ∙ ap (λ (n : ℕ). nat_le n (f.first + k)) (sym next);
    }

pub returns-clause-moves : goal.returns-clause-moves
returns-clause-moves c =
    let f : Flights = c.args.self.now in
    let x : Flight = c.index_mut-flight.result.now in
    let place : c.in_ok-place.place ≡ f.next - f.first = c.in_ok-place.ensures.from.1 in
    let within : f.next - f.first < length f.kept.items = omega (arith, c.in_ok-place.ensures.within, place, f.kept.ok.0) in
    let at : slice_get f.kept.items (f.next - f.first) ≡ Some x = slice_get-get_or f.kept.items (f.next - f.first) x within
    ∙ ap Some (ap (λ (k : ℕ). get_or f.kept.items k x) (sym place) ∙ sym c.index_mut-flight.ensures.value) in
    let is : f.next ≡ f.first + (f.next - f.first) = omega (arith, f.behind) in
    let was : x.stage ≡ Came = first_waits f.first f.next f.kept.items (f.next - f.first) x f.ordered is within at in (
      c.go_on.new.self,
      moves f _ f.next Came c.args.now x c.go_on.new.self refl
          (ap (λ (k : ℕ). slice_set f.kept.items k c.go_on.new.self) place) f.behind within at was c.go_on.ensures.value
          (c.go_on.ensures.stage ∙ ap next_stage was),
    )
