-- The limits of this profile. A later profile raises them here and in src/limits.rt.
use Rattle.std.specs.Prelude.{ℕ}

-- the highest identifier of an I/O submission queue
abbrev pub highest_qid : ℕ
highest_qid = 64

-- how many submission queues there can be: the admin queue and the I/O queues
abbrev pub queue_limit : ℕ
queue_limit = 65

-- the most candidates of one queue
abbrev pub highest_count : ℕ
highest_count = 256
