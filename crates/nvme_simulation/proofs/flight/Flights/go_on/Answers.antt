use Rattle.std.proofs.Common.{◌≡◌, ◌≢◌, ◌∙◌, ℕ, ◌-◌, ◌<◌, Some, get_or, length, refl, sym, ap, arith}
use Rattle.std.specs.Prelude.{slice_get, slice_set}
use Rattle.std.proofs.lemmas.Option.{slice_get-get_or}
use Rattle.nvme_simulation.specs.Ranks.{next_stage}
use Rattle.nvme_simulation.specs.declared.flight.Flight.{Flight}
use Rattle.nvme_simulation.specs.declared.flight.Flights.{Flights}
use Rattle.std.proofs.lemmas.List.{length-set}
use Rattle.nvme_simulation.specs.declared.flight.Stage.TheVariants.{Came}
use Rattle.nvme_simulation.proofs.Moves.{moves}
use Rattle.nvme_simulation.proofs.Waiting.{ordered_on}
use Rattle.nvme_simulation.proofs.flight.Flights.go_on.Goals as goal

pub returns-clause-moves : goal.returns-clause-moves
returns-clause-moves c =
    let f : Flights = c.args.self.now in
    let x : Flight = c.index_mut-flight.result.now in
    let place : c.in_ok-place.place ≡ c.args.number - f.first = c.in_ok-place.ensures.from.1 in
    let within : c.args.number - f.first < length f.kept.items = omega (arith, c.in_ok-place.ensures.within, place, f.kept.ok.0) in
    let at : slice_get f.kept.items (c.args.number - f.first) ≡ Some x = slice_get-get_or f.kept.items (c.args.number - f.first) x within
    ∙ ap Some (ap (λ (k : ℕ). get_or f.kept.items k x) (sym place) ∙ sym c.index_mut-flight.ensures.value) in
    let looked : slice_get f.kept.items (c.args.number - f.first) ≡ Some c.index.result.now = slice_get-get_or f.kept.items (c.args.number - f.first) c.index.result.now within
    ∙ ap Some (ap (λ (k : ℕ). get_or f.kept.items k c.index.result.now) (sym place) ∙ sym c.index.ensures) in
    let was : x.stage ≡ c.args.from = grind (arith, c.if-ne.false, c.ne.ensures, at, looked) in
    moves f _ c.args.number c.args.from c.args.now x c.go_on.new.self refl
    (ap (λ (k : ℕ). slice_set f.kept.items k c.go_on.new.self) place) c.in_ok-place.ensures.from.0 within at was c.go_on.ensures.value
    (c.go_on.ensures.stage ∙ ap next_stage was)

pub invariant_of-self : goal.invariant_of-self
invariant_of-self c =
    let f : Flights = c.args.self.now in
    let x : Flight = c.index_mut-flight.result.now in
    let within : c.in_ok-place.place < length f.kept.items = omega (arith, c.in_ok-place.ensures.within, f.kept.ok.0) in
    let at : slice_get f.kept.items c.in_ok-place.place ≡ Some x = slice_get-get_or f.kept.items c.in_ok-place.place x within ∙ ap Some (sym c.index_mut-flight.ensures.value) in
    let looked : slice_get f.kept.items c.in_ok-place.place ≡ Some c.index.result.now = slice_get-get_or f.kept.items c.in_ok-place.place c.index.result.now within
    ∙ ap Some (sym c.index.ensures) in
    let was : x.stage ≡ c.args.from = grind (arith, c.if-ne.false, c.ne.ensures, at, looked) in
    let other : x.stage ≢ Came = λ e. c.requires.later (sym was ∙ e) in
    record {
      behind = f.behind;
      within = omega (arith, f.within, length-set f.kept.items c.in_ok-place.place c.go_on.new.self);
      ordered = ordered_on f.first f.next f.kept.items c.in_ok-place.place x c.go_on.new.self f.ordered at within other c.go_on.ensures.stage;
    }
