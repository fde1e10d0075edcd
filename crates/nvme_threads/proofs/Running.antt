-- The runs of a crew are those of its workers and its gates.
use Rattle.std.proofs.Common.{ℕ, List, [], ◌∷◌, map}
use Rattle.std.specs.List.{AllZip}
use Rattle.nvme_pool.specs.Runs.{Ran}
use Rattle.nvme_threads.specs.declared.crew.Crewman.{Crewman}
use Rattle.nvme_threads.specs.Runs.{AllRan}

module _ {G : Type 0} (runs : G → ℕ → G) where
  -- the workers and the gates of a crew ran as the crew did
  pub all_ran : (cs ds : List (Crewman G)) → AllZip (λ (c d : Crewman G). Ran runs c.worker c.gate d.worker d.gate) cs ds
      → AllRan runs (map (λ (c : Crewman G). c.worker) cs) (map (λ (c : Crewman G). c.gate) cs) (map (λ (c : Crewman G). c.worker) ds) (map (λ (c : Crewman G). c.gate) ds)
  all_ran [] [] ran = tt
  all_ran [] (d ∷ ds) ran = absurd ran
  all_ran (c ∷ cs) [] ran = absurd ran
  all_ran (c ∷ cs) (d ∷ ds) ran = (ran.0, all_ran cs ds ran.1)
