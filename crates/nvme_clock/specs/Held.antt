-- What a queue of events holds, and what pushing and popping make of it. (profile)
use Rattle.std.specs.Prelude.{ℕ, ◌+◌, List, [], ◌∷◌, Option, Some, None}
use Rattle.std.specs.BinaryHeap.{heap_items}
use Rattle.nvme_clock.specs.declared.events.Event.{Event}
use Rattle.nvme_clock.specs.declared.events.EventQueue.{EventQueue}
use Rattle.nvme_clock.specs.Events.{comes_before, events_in, inserted, sorted}

-- the time, the number of the next event, and the events to come in their order
pub record Held (E : Type 0) : Type 0 where
  pub time : ℕ
  pub next : ℕ
  pub events : List (Event E)

abbrev pub held : {E : Type 0} → EventQueue E → Held E
held q = record { time = q.time; next = q.next; events = sorted comes_before (events_in (heap_items q.heap)) }

abbrev pub nothing : {E : Type 0} → Held E
nothing = record { time = 0; next = 0; events = [] }

-- an event more, at its place
abbrev pub pushed : {E : Type 0} → ℕ → E → Held E → Held E
pushed at what h =
    record { time = h.time; next = h.next + 1; events = inserted comes_before (record { at = at; number = h.next; what = what }) h.events }

-- the first event, whose time it is then
abbrev pub first_of : {E : Type 0} → Held E → List (Event E) → Option (Event E) × Held E
first_of h [] = (None, h)
first_of h (e ∷ es) = (Some e, record { time = e.at; next = h.next; events = es })

abbrev pub popped : {E : Type 0} → Held E → Option (Event E) × Held E
popped h = first_of h h.events
