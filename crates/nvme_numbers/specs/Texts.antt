-- Lines as texts. (profile)
use Rattle.std.specs.Prelude.{ℕ, ◌++◌, List, [], ◌∷◌, codes, decimal}
use Rattle.nvme_model.specs.declared.finished.Finished.{Finished}
use Rattle.nvme_numbers.specs.Names.{operation_text}

-- cells with commas between them
abbrev pub cells_behind : List (List ℕ) → List ℕ
cells_behind [] = []
cells_behind (cell ∷ cells) = codes "," ++ (cell ++ cells_behind cells)

abbrev pub cells_of : List (List ℕ) → List ℕ
cells_of [] = []
cells_of (cell ∷ cells) = cell ++ cells_behind cells

-- the line of the names in the log
abbrev pub log_head : List ℕ
log_head = codes "queue,number,operation,block,blocks,channel,came_ps,submitted_ps,picked_ps,started_ps,done_ps\n"

-- the line of a command there
abbrev pub log_text : Finished → List ℕ
log_text f =
    cells_of (decimal f.queue ∷ decimal f.number ∷ operation_text f.operation ∷ decimal f.block ∷ decimal f.blocks ∷ decimal f.channel
    ∷ decimal f.times.came ∷ decimal f.times.submitted ∷ decimal f.times.picked ∷ decimal f.times.started ∷ decimal f.times.done ∷ [])
    ++ codes "\n"
