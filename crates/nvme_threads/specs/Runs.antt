-- What is left of workers and their gates (profile).
use Rattle.std.specs.Prelude.{ℕ, List, [], ◌∷◌}
use Rattle.nvme_pool.specs.Worker.{WorkerView}
use Rattle.nvme_pool.specs.Runs.{Ran}

-- `runs` is the view of a gate after one execution, by the view before it and the ticket
module _ {G : Type 0} (runs : G → ℕ → G) where
  -- each of these workers, with the gate at its place, ran to the worker and the gate at its place among what came back
  abbrev pub AllRan : List WorkerView → List G → List WorkerView → List G → Type 0
  AllRan [] [] [] [] = Unit {0}
  AllRan (w ∷ ws) (v ∷ vs) (w' ∷ ws') (v' ∷ vs') = Ran runs w v w' v' × AllRan ws vs ws' vs'
  AllRan _ _ _ _ = ⊥
