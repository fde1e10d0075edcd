-- What is counted of one step more.
use Rattle.std.proofs.Common.{◌≡◌, ◌∙◌, ℕ, ◌+◌, ◌<◌, Bool, true, false, List, [], ◌∷◌, ◌++◌, length, inl, inr, ap, arith, refl, subst, sym}
use Rattle.std.proofs.lemmas.List.{append-nil, append_assoc}
use Rattle.nvme_model.specs.declared.finished.Finished.{Finished as Command}
use Rattle.nvme_model.specs.declared.model.Model.{Model}
use Rattle.nvme_numbers.specs.Collected.{Adds, IsFedBy}
use Rattle.nvme_numbers.specs.Feeding.{Event}
use Rattle.nvme_numbers.specs.declared.numbers.Numbers.{Numbers}
use Rattle.nvme_simulate.specs.Played.{AddsIf, Collects, EndsIn, GoesBy, IsPlayed, Takes, done_behind, events_of, is_over, last_done, told_by}
use Rattle.nvme_simulation.specs.Runs.{IsRun, Moment}
use Rattle.nvme_simulation.specs.Stepping.{GoesOn, HasStepped}
use Rattle.nvme_simulation.specs.declared.happening.Happening.{Happening}
use Rattle.nvme_simulation.specs.declared.happening.Happening.TheVariants.{Came, Picked, Settled, Finished, Paused, Resumed, Over}
use Rattle.nvme_simulation.specs.declared.simulation.Simulation.{Simulation}

-- a command that is added changes nothing of the time in which commands come
added : (x : Command) (events : List Event) (old new : Numbers) → Adds x old new → IsFedBy events old → IsFedBy events new
added x events old new adds is = record {
  comings = rw (adds.says, adds.comings) is.comings;
  each = λ k d l. rw (adds.says, adds.feeds k d) (is.each k d (omega (arith, l, adds.count)));
}

added_if : (counts : Bool) (x : Command) (events : List Event) (old new : Numbers) → AddsIf counts x old new → IsFedBy events old → IsFedBy events new
added_if true x events old new adds is = added x events old new adds is
added_if false x events old new adds is = rw adds is

taken : (after : Simulation) (h : Happening) (events : List Event) (old new : Numbers) → Takes after h old new → IsFedBy events old → IsFedBy (told_by after h ++ events) new
taken after (Came queue) events old new takes is = takes.fed events is
taken after (Finished command counts) events old new takes is = added_if counts command _ takes.0 new takes.1.1 (takes.1.0.fed events is)
taken after (Picked p) events old new takes is = rw takes is
taken after Settled events old new takes is = rw takes is
taken after (Paused channel) events old new takes is = rw takes is
taken after (Resumed channel) events old new takes is = rw takes is
taken after Over events old new takes is = rw takes is

pub no_step : (s : Simulation) (n : Numbers) → GoesBy [] s s n n 0
unfolding IsRun Collects last_done
no_step s n = record { run = refl; counted = refl; ended = refl; fed = λ events is. is }

pub one_more : (steps : List Moment) (first before after : Simulation) (none old new : Numbers) (end next : ℕ) (h : Happening) → GoesBy steps first before none old end
    → HasStepped before after h → Takes after h old new → next ≡ done_behind h end → GoesBy (record { before = before; told = h; after = after } ∷ steps) first after none new next
unfolding IsRun Collects last_done
one_more steps first before after none old new end next h goes stepped takes is = record {
  run = (refl, (stepped, goes.run));
  counted = (old, (goes.counted, takes));
  ended = is ∙ ap (done_behind h) goes.ended;
  fed = λ events so. subst (λ v. IsFedBy v new) (sym (append_assoc (told_by after h) (events_of steps) events)) (taken after h _ old new takes (goes.fed events so));
}

-- one step more, or two, of which the first tells that no command can be picked
pub gone_on : (steps : List Moment) (first before after : Simulation) (none old new : Numbers) (end next : ℕ) (h : Happening) → GoesBy steps first before none old end
    → GoesOn before after h → Takes after h old new → next ≡ done_behind h end → (all : List Moment) × (GoesBy all first after none new next × EndsIn h all)
gone_on steps first before after none old new end next h goes (inl stepped) takes is =
    (_, (one_more steps first before after none old new end next h goes stepped takes is, refl))
gone_on steps first before after none old new end next h goes (inr (mid, (settled, stepped))) takes is =
    (_, (one_more _ first mid after none old new end next h (one_more steps first before mid none old old end end Settled goes settled refl refl) stepped takes is, refl))

pub over_is : (h : Happening) → is_over h ≡ true → h ≡ Over
over_is (Came queue) e = cc
over_is (Picked p) e = cc
over_is Settled e = cc
over_is (Finished command counts) e = cc
over_is (Paused channel) e = cc
over_is (Resumed channel) e = cc
over_is Over e = refl

-- at the end nothing more is done
pub done_at_end : (h : Happening) (end : ℕ) → h ≡ Over → end ≡ done_behind h end
done_at_end h end e = rw e refl

-- what is kept of the time in which commands come is that of a whole run
pub played_fed : (model : Model) (s : Simulation) (n : Numbers) (end : ℕ) (played : IsPlayed model s n end) → IsFedBy (events_of played.ran.steps) n
played_fed model s n end played = subst (λ v. IsFedBy v n) (append-nil (events_of played.ran.steps)) (played.ran.goes.fed [] played.new.fed)
