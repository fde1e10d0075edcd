-- What a contract sees of the two ends of a ring, which stands for a submission or a completion queue in memory (Base Specification, Submission Queue and Completion Queue: one producer, one consumer).
use Rattle.std.specs.Prelude.{◌≡◌, ℕ, List}
use Rattle.std.specs.Global.{Global}
use denote.RawPtr.{Ptr}
use Rattle.rtrb.specs.Shared.{Names}
use Rattle.rtrb.specs.declared.producer.Producer.{Producer}
use Rattle.rtrb.specs.declared.consumer.Consumer.{Consumer}

-- which ring it is: two ends are of one ring where these are equal
pub record RingName : Type 0 where
  pub words : Ptr
  pub cells : Ptr
  pub names : Names
  pub heap : Global

module _ {T P : Type 0} where
  abbrev pub ring_of_producer : Producer T Global P → RingName
  ring_of_producer p = record { words = p.end.words; cells = p.end.slots; names = p.end.names; heap = p.end.heap }

  abbrev pub ring_of_consumer : Consumer T Global P → RingName
  ring_of_consumer c = record { words = c.end.words; cells = c.end.slots; names = c.end.names; heap = c.end.heap }

-- the end that puts: all that it put, oldest first, how many places it knows to be free, and the address, the slots and the ring that it is an end of
pub record PutView (T : Type 0) : Type 0 where
  pub sent : List T
  pub free : ℕ
  pub address : ℕ
  pub slots : ℕ
  pub ring : RingName

-- the end that gets: all that it got, oldest first, what it knows to come next, and the address, the slots and the ring that it is an end of
pub record GetView (T : Type 0) : Type 0 where
  pub got : List T
  pub known : List T
  pub address : ℕ
  pub slots : ℕ
  pub ring : RingName

module _ {T : Type 0} where
  -- the same end of the same ring
  abbrev pub SamePut : PutView T → PutView T → Type 0
  SamePut a b = (b.ring ≡ a.ring) × (b.address ≡ a.address) × (b.slots ≡ a.slots)

  -- the same end of the same ring
  abbrev pub SameGet : GetView T → GetView T → Type 0
  SameGet a b = (b.ring ≡ a.ring) × (b.address ≡ a.address) × (b.slots ≡ a.slots)

  -- the two ends of one ring
  abbrev pub IsPair : PutView T → GetView T → Type 0
  IsPair p g = (p.ring ≡ g.ring) × (p.address ≡ g.address) × (p.slots ≡ g.slots)
