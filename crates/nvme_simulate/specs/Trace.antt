-- The line of a pick in the trace of a simulation. (profile)
use Rattle.std.specs.Prelude.{ℕ, List, [], ◌∷◌, ◌++◌, codes, decimal}
use Rattle.std.specs.List.{concat}
use Rattle.nvme_arbiter.specs.declared.pick.Seen.{Seen}
use Rattle.nvme_simulation.specs.declared.happening.Picked.{Picked}
use Rattle.nvme_tracer.specs.Text.{text_of_flag, text_of_seen}

-- up to the open queues that it saw
abbrev pub text_before_seen : Picked → List ℕ
text_before_seen picked =
    concat (codes "{\"pick\":" ∷ decimal picked.pick.qid ∷ codes ",\"n\":" ∷ decimal picked.pick.n ∷ codes ",\"room\":" ∷ decimal picked.room
    ∷ codes ",\"fresh\":" ∷ text_of_flag picked.pick.fresh ∷ codes ",\"seen\":[" ∷ [])

-- the time behind them
abbrev pub text_of_time : ℕ → List ℕ
text_of_time time = concat (codes "],\"x_ps\":" ∷ decimal time ∷ codes "}\n" ∷ [])

abbrev pub text_of_pick : Picked → List Seen → List ℕ
text_of_pick picked seen = text_before_seen picked ++ (text_of_seen seen ++ text_of_time picked.at)
