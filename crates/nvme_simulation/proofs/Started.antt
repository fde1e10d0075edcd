-- Commands that start in the device.
use Rattle.std.proofs.Common.{◌≡◌, ℕ, Option, Result, Ok, ap, subst, sym}
use Rattle.nvme_channels.specs.declared.channel.StepFault.{StepFault}
use Rattle.nvme_channels.specs.declared.channels.Start.{Start}
use Rattle.nvme_channels.specs.Devices.{Device}
use Rattle.nvme_channels.specs.Steps.{take_of}
use Rattle.nvme_simulation.specs.Starts.{AnswersAs, StartsAs, number_in}
use Rattle.nvme_simulation.specs.declared.channels.Started.{Started}
use Rattle.nvme_simulation.specs.declared.flight.Request.{Request}
use Rattle.nvme_simulation.specs.declared.front.Taken.{Taken}

-- what the device answers is told
pub answers : (r : Result (Option Start) StepFault) (told : Option Started) (start : Option Start) → r ≡ Ok start → StartsAs start told → AnswersAs r told
answers r told start is starts = subst (λ (x : Result (Option Start) StepFault). AnswersAs x told) (sym is) starts

-- the device takes a command at a time that is told
pub at_now : (taken : Taken) (request : Request) (t u : ℕ) (d : Device) → t ≡ u
    → (take_of t (number_in taken) request.block request.service d).1 ≡ (take_of u (number_in taken) request.block request.service d).1
at_now taken request t u d time = ap (λ (v : ℕ). (take_of v (number_in taken) request.block request.service d).1) time

pub answers_now : (taken : Taken) (request : Request) (t u : ℕ) (d : Device) (told : Option Started) → t ≡ u
    → AnswersAs (take_of t (number_in taken) request.block request.service d).0 told → AnswersAs (take_of u (number_in taken) request.block request.service d).0 told
answers_now taken request t u d told time is =
    subst (λ (v : ℕ). AnswersAs (take_of v (number_in taken) request.block request.service d).0 told) time is
