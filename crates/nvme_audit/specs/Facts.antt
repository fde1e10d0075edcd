-- The facts of a queue, of the admin commands and of a command after a log, which the rules read.
use Rattle.std.specs.Prelude.{ℕ, Bool, Option, Some, None}
use Rattle.nvme_entry.specs.declared.admin.AdminCommand.{AdminCommand}
use Rattle.nvme_audit.specs.declared.facts.Start.{Start}
use Rattle.nvme_audit.specs.declared.facts.Sq.{Sq}
use Rattle.nvme_audit.specs.declared.facts.Cq.{Cq}
use Rattle.nvme_audit.specs.declared.facts.Admin.{Admin}
use Rattle.nvme_audit.specs.declared.facts.Command.{Command}
use Rattle.nvme_audit.specs.Lives.{Past, asked}
use Rattle.nvme_audit.specs.Queues.{ring_of, was_deleted, qsize_of}
use Rattle.nvme_audit.specs.Rings.{submitted, fetched, posted, consumed, number_of}
use Rattle.nvme_audit.specs.Turns.{sq_asks, sq_replies, was_doomed, cq_asks, cq_replies, joined, parted, sqs_asks, sqs_replies, have_met, was_created, numbers}
use Rattle.nvme_audit.specs.Aborts.{aborts_asked, aborts_answered, was_named, stirred}
use Rattle.nvme_audit.specs.Marks.{mark_of, owes}
use Rattle.nvme_audit.specs.Early.{is_early}
use Rattle.nvme_audit.specs.Host.{is_sq_excused, is_cq_excused}

abbrev pub sq_after : Start → Past → ℕ → Sq
sq_after start past q = record {
  ring = ring_of start past q;
  submitted = submitted start past q;
  fetched = fetched past q;
  deleted = was_deleted past q;
  excused = is_sq_excused start past q;
  asked = sq_asks past q;
  answered = sq_replies past q;
  doomed = was_doomed past q;
  stirred = stirred past q;
}

abbrev pub cq_after : Start → Past → ℕ → Cq
cq_after start past q = record {
  qsize = qsize_of start past q;
  posted = posted past q;
  consumed = consumed start past q;
  excused = is_cq_excused start past q;
  asked = cq_asks past q;
  answered = cq_replies past q;
  joined = joined past q;
  parted = parted start past q;
  early = is_early start past q;
}

abbrev pub admin_after : Past → Admin
admin_after past = record {
  asked = sqs_asks past;
  answered = sqs_replies past;
  met = have_met past;
  created = was_created past;
  numbers = numbers past;
  aborts_asked = aborts_asked past;
  aborts_answered = aborts_answered past;
}

abbrev pub command_with : Option AdminCommand → (number mark : ℕ) → (named owed : Bool) → Option Command
command_with None number mark named owed = None
command_with (Some command) number mark named owed = Some (record { number = number; command = command; mark = mark; named = named; owed = owed })

-- the outstanding command of a name
abbrev pub outstanding : Past → (sq cid : ℕ) → Option Command
outstanding past q c = command_with (asked past q c) (number_of past q c) (mark_of past q c) (was_named past q c) (owes past q c)
