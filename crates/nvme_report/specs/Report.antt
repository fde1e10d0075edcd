-- The report of a run, as text: what was picked, how many commands of each region were submitted, fetched, picked and aborted, how
-- many completions each host collected, and how each fetched command was answered. (profile)
use Rattle.std.specs.Prelude.{ℕ, ◌+◌, ◌==◌, ◌&&◌, if◌then◌else◌, List, [], ◌∷◌, ◌++◌, length, reverse, codes, decimal, Vec}
use Rattle.std.specs.List.{concat, flat_map}
use Rattle.nvme_entry.specs.declared.completion.Cqe.{Cqe}
use Rattle.nvme_log.specs.declared.event.Event.{Event}
use Rattle.nvme_log.specs.declared.event.Event.TheVariants.{Pick, Abort, Post}
use Rattle.nvme_front.specs.declared.settled.Sent.{Sent}
use Rattle.nvme_front.specs.declared.settled.Settled.{Settled}
use Rattle.nvme_log.specs.Rules.{Past, upto}
use Rattle.nvme_log.specs.Places.{fetched, picked, places}
use Rattle.nvme_output.specs.Pieces.{hex_byte, hex_dword}
use Rattle.nvme_lane.specs.declared.mode.Mode.{Mode}
use Rattle.nvme_lane.specs.declared.mode.Mode.TheVariants.{Loaded, Live}

-- how many Aborts name a place of a region
abbrev pub aborts_of : Past → ℕ → ℕ
aborts_of [] r = 0
aborts_of (Abort region index ∷ past) r = if region == r then aborts_of past r + 1 else aborts_of past r
aborts_of (e ∷ past) r = aborts_of past r

-- the completion that an event posts for a place
abbrev pub completion_in : ℕ → ℕ → Event → List Cqe
completion_in r i (Post cq_region region index cqe) = if region == r && index == i then cqe ∷ [] else []
completion_in r i e = []

-- the completions that a log posts for a place, in order
abbrev pub completions_of : List Event → ℕ → ℕ → List Cqe
completions_of log r i = flat_map (completion_in r i) log

-- a line of some pieces
abbrev pub line : List (List ℕ) → List ℕ
line pieces = concat pieces ++ codes "\n"

abbrev pub mode_line : Mode → List ℕ
mode_line Loaded = line (codes "loaded" ∷ [])
mode_line Live = line (codes "live" ∷ [])

-- the line of an event, where it is a pick
abbrev pub pick_line : Event → List ℕ
pick_line (Pick seen pick) =
    line (codes "pick q" ∷ decimal pick.qid ∷ codes " " ∷ decimal pick.n ∷ (if pick.fresh then codes " fresh" else []) ∷ [])
pick_line e = []

-- the line of a submission region
abbrev pub sq_line : Past → ℕ → Sent → List ℕ
sq_line past r sent =
    line (codes "sq " ∷ decimal r ∷ codes " script " ∷ decimal (length sent.script.items) ∷ codes " submitted " ∷ decimal sent.count
    ∷ codes " fetched " ∷ decimal (length (fetched past r)) ∷ codes " picked " ∷ decimal (picked past r)
    ∷ codes " aborted " ∷ decimal (aborts_of past r) ∷ [])

-- the line of a completion region, with the number of completions that were collected
abbrev pub cq_line_of : ℕ → ℕ → List ℕ
cq_line_of c count = line (codes "cq " ∷ decimal c ∷ codes " collected " ∷ decimal count ∷ [])

abbrev pub cq_line : {Z : Type 0} → ℕ → Vec Cqe Z → List ℕ
cq_line c cqes = cq_line_of c (length cqes.items)

-- the line of a place with its completion
abbrev pub cmd_line : ℕ → ℕ → Cqe → List ℕ
cmd_line r i cqe =
    line (codes "cmd " ∷ decimal r ∷ codes "." ∷ decimal i ∷ codes " " ∷ decimal cqe.status.sct ∷ codes "/" ∷ hex_byte cqe.status.sc
    ∷ codes " " ∷ hex_dword cqe.dw0 ∷ [])

-- the lines of the fetched places of a region, each with its completion
abbrev pub cmd_lines : List Event → ℕ → List ℕ
cmd_lines log r = flat_map (λ (i : ℕ). flat_map (cmd_line r i) (completions_of log r i)) (places (reverse log) r)

-- the text of each item with its index, from a first index on
abbrev pub numbered : {A : Type 0} → (ℕ → A → List ℕ) → ℕ → List A → List ℕ
numbered text n [] = []
numbered text n (x ∷ xs) = text n x ++ numbered text (n + 1) xs

-- the lines of the picks, of the submission regions, of the completion regions and of the fetched places
abbrev pub picks_text : Settled → List ℕ
picks_text settled = flat_map pick_line settled.log.items

abbrev pub submissions_text : Settled → List ℕ
submissions_text settled = numbered (sq_line (reverse settled.log.items)) 0 settled.sent.items

abbrev pub collected_text : Settled → List ℕ
collected_text settled = numbered cq_line 0 settled.collected.items

abbrev pub completions_text : Settled → List ℕ
completions_text settled = flat_map (cmd_lines settled.log.items) (upto (length settled.sent.items))

-- the whole report
abbrev pub report_text : Mode → Settled → List ℕ
report_text mode settled =
    concat (mode_line mode ∷ picks_text settled ∷ submissions_text settled ∷ collected_text settled ∷ completions_text settled
    ∷ codes "end\n" ∷ [])
