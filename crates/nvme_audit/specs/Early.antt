-- Queues that may be open before the host is told so: a Create takes effect some time between its fetch and its completion.
-- (Base Specification, Create I/O Submission Queue, Create I/O Completion Queue)
use Rattle.std.specs.Prelude.{ℕ, ◌==◌, ◌&&◌, ◌||◌, nat_lt, Bool, false, not, is_none, is_some, [], ◌∷◌}
use Rattle.nvme_entry.specs.declared.admin.AdminCommand.{AdminCommand}
use Rattle.nvme_audit.specs.declared.event.Event.TheVariants.{Tail, Head, Fetch, Post}
use Rattle.nvme_audit.specs.declared.facts.Start.{Start}
use Rattle.nvme_audit.specs.Lives.{Past, done}
use Rattle.nvme_audit.specs.Queues.{ring_of, qsize_of, opens_sq, opens_cq, deletes_cq}
use Rattle.nvme_audit.specs.Turns.{sq_asks, sq_replies, cq_asks, cq_replies}

-- a command that is fetched doesn't begin this submission queue anew: it isn't its Create, another Create or Delete of it is
-- outstanding, or it is open
abbrev pub sq_lives_on : Start → Past → AdminCommand → ℕ → Bool
sq_lives_on start past command q = not (opens_sq command q) || (nat_lt (sq_replies past q) (sq_asks past q) || is_some (ring_of start past q))

-- the same of a completion queue
abbrev pub cq_lives_on : Start → Past → AdminCommand → ℕ → Bool
cq_lives_on start past command q = not (opens_cq command q) || (nat_lt (cq_replies past q) (cq_asks past q) || is_some (qsize_of start past q))

-- a completion queue that isn't open, and of which a Create or a Delete is outstanding
abbrev pub may_be_open : Start → Past → ℕ → Bool
may_be_open start past q = is_none (qsize_of start past q) && nat_lt (cq_replies past q) (cq_asks past q)

-- a completion came into such a queue. How many came since it was created nobody knows, until it is deleted
abbrev pub is_early : Start → Past → ℕ → Bool
is_early start [] q = false
is_early start (Tail sq slot ∷ past) q = is_early start past q
is_early start (Head cq slot ∷ past) q = is_early start past q
is_early start (Fetch sq slot cid command ∷ past) q = is_early start past q
is_early start (Post cq slot completion ∷ past) q = not (deletes_cq (done past completion) q) && (((cq == q) && may_be_open start past q) || is_early start past q)
