-- What commands ask for. (profile)
use Rattle.std.specs.Prelude.{◌≡◌, ℕ, ◌+◌, List, Option, Some, None}
use Rattle.rand_core.specs.Stream.{Stream}
use Rattle.rand_core.specs.Steps.{steps_u64_high, stream_of}
use Rattle.rand_xoshiro.specs.Xoshiro256.{plus_plus}
use Rattle.nvme_load.specs.Arrivals.{request_at}
use Rattle.nvme_load.specs.Mixes.{operation}
use Rattle.nvme_load.specs.Places.{place}
use Rattle.nvme_load.specs.Services.{service_by}
use Rattle.nvme_load.specs.declared.mix.Operation.{Operation}
use Rattle.nvme_load.specs.declared.mix.Operation.TheVariants.{Flush}
use Rattle.nvme_load.specs.declared.places.Places.{Places}
use Rattle.nvme_load.specs.declared.replay.Request.{Request as Listed}
use Rattle.nvme_simulation.specs.Loads.{Load, load_of}
use Rattle.nvme_simulation.specs.declared.flight.Request.{Request}
use Rattle.nvme_simulation.specs.declared.host.Asked.{Asked}
use Rattle.nvme_simulation.specs.declared.host.Host.{Host}

-- what a host draws its commands from: what it does, and the states of three streams of its own. When they come is drawn from the fourth one
pub record Asking : Type 0 where
  pub load : Load
  pub operations : List ℕ
  pub offsets : List ℕ
  pub services : List ℕ

abbrev pub asking_of : Host → Asking
asking_of h = record { load = load_of h; operations = h.streams.operations; offsets = h.streams.offsets; services = h.streams.services }

-- the words of a stream in a state
abbrev pub words : List ℕ → Stream
words state = stream_of (steps_u64_high plus_plus) state

-- a flush has no block. Another command lies at the next place
abbrev pub IsPlaced : (before after : Asking) → Operation → (block blocks : ℕ) → Type 0
IsPlaced before after Flush block blocks = (block ≡ 0) × ((blocks ≡ 0) × ((after.load.places ≡ before.load.places) × (after.offsets ≡ before.offsets)))
IsPlaced before after op block blocks =
    let at : Places = before.load.places in
    (blocks ≡ at.extent.blocks)
    × (((block, words after.offsets) ≡ place at.order at.extent.size at.extent.blocks at.end (words before.offsets))
    × (after.load.places ≡ record { extent = at.extent; order = at.order; end = block + blocks }))

-- nothing is drawn
pub record DrawsNone (before after : Asking) : Type 0 where
  pub operations : after.operations ≡ before.operations
  pub offsets : after.offsets ≡ before.offsets
  pub places : after.load.places ≡ before.load.places

-- as a list says of a command, and nothing is drawn then. Else its operation is drawn by the mix, and then its place
abbrev pub IsAsked : Option Listed → (before after : Asking) → Asked → Type 0
IsAsked (Some listed) before after a =
    (a.operation ≡ listed.operation) × ((a.block ≡ listed.block) × ((a.blocks ≡ listed.blocks) × DrawsNone before after))
IsAsked None before after a =
    ((a.operation, words after.operations) ≡ operation before.load.mix.read before.load.mix.write before.load.mix.flush (words before.operations))
    × IsPlaced before after a.operation a.block a.blocks

-- a host does what it did, but where its next command lies
pub record SameAsking (before after : Asking) : Type 0 where
  pub class : after.load.class ≡ before.load.class
  pub slots : after.load.slots ≡ before.load.slots
  pub arrivals : after.load.arrivals ≡ before.load.arrivals
  pub mix : after.load.mix ≡ before.load.mix
  pub services : after.load.services ≡ before.load.services

abbrev pub asked_in : Request → Asked
asked_in request = record { operation = request.operation; block = request.block; blocks = request.blocks }

-- the command of a number of a host asks for this: as its list says, or as is drawn. How long it runs is drawn from a stream of its own
pub record Draws (number : ℕ) (before after : Asking) (request : Request) : Type 0 where
  pub asked : IsAsked (request_at before.load.arrivals number) before after (asked_in request)
  pub service : (Some request.service, words after.services) ≡ service_by before.load.services request.operation request.blocks (words before.services)
  pub same : SameAsking before after
