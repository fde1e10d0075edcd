-- The text of a trace: a line for the head, and one for each pick and each change of the settings. (profile)
use Rattle.std.specs.Prelude.{ℕ, Bool, true, false, List, [], ◌∷◌, ◌++◌, codes, decimal}
use Rattle.std.specs.List.{concat, flat_map}
use Rattle.nvme_arbiter.specs.Settings.{ArbitrationFields, cdw11_of}
use Rattle.nvme_arbiter.specs.declared.settings.Mechanism.{Mechanism}
use Rattle.nvme_arbiter.specs.declared.pick.Seen.{Seen}
use Rattle.nvme_arbiter.specs.declared.pick.Pick.{Pick}
use Rattle.nvme_log.specs.declared.event.Event.{Event}
use Rattle.nvme_log.specs.declared.event.Event.TheVariants as log
use Rattle.nvme_trace.specs.Names.{class_text, mechanism_text}

abbrev pub text_of_head : Mechanism → ArbitrationFields → List ℕ
text_of_head mechanism settings =
    concat (codes "{\"version\":1,\"mechanism\":\"" ∷ mechanism_text mechanism ∷ codes "\",\"cdw11\":" ∷ decimal (cdw11_of settings) ∷ codes "}\n" ∷ [])

-- an open queue: identifier, class and count
abbrev pub text_of_queue : Seen → List ℕ
text_of_queue queue =
    concat (codes "[" ∷ decimal queue.qid ∷ codes ",\"" ∷ class_text queue.class ∷ codes "\"," ∷ decimal queue.count ∷ codes "]" ∷ [])

abbrev pub text_of_next : Seen → List ℕ
text_of_next queue = codes "," ++ text_of_queue queue

-- the open queues, with commas between them
abbrev pub text_of_seen : List Seen → List ℕ
text_of_seen [] = []
text_of_seen (queue ∷ queues) = text_of_queue queue ++ flat_map text_of_next queues

abbrev pub text_of_flag : Bool → List ℕ
text_of_flag true = codes "true"
text_of_flag false = codes "false"

-- a pick, up to the open queues that it saw
abbrev pub text_before_seen : Pick → List ℕ
text_before_seen pick =
    concat (codes "{\"pick\":" ∷ decimal pick.qid ∷ codes ",\"n\":" ∷ decimal pick.n ∷ codes ",\"fresh\":" ∷ text_of_flag pick.fresh
    ∷ codes ",\"seen\":[" ∷ [])

abbrev pub text_of_pick : List Seen → Pick → List ℕ
text_of_pick seen pick = text_before_seen pick ++ (text_of_seen seen ++ codes "]}\n")

abbrev pub text_of_set : ArbitrationFields → List ℕ
text_of_set settings = concat (codes "{\"set\":" ∷ decimal (cdw11_of settings) ∷ codes "}\n" ∷ [])

-- the line of an event of a log, where it is of arbitration
abbrev pub text_of_event : Event → List ℕ
text_of_event (log.Pick seen pick) = text_of_pick seen pick
text_of_event (log.SetArbitration settings) = text_of_set settings
text_of_event e = []

-- the trace of a log: its mechanism and its first settings, and then its events
abbrev pub trace_text : Mechanism → ArbitrationFields → List Event → List ℕ
trace_text mechanism settings log = text_of_head mechanism settings ++ flat_map text_of_event log
