-- What a judge keeps, and when it stands at a log (profile).
use Rattle.std.specs.Prelude.{◌≡◌, ℕ, ◌&&◌, nat_eq, Bool, false, Option, [], unwrap_or}
use Rattle.std.specs.HashMap.{get}
use Rattle.nvme_audit.specs.declared.facts.Start.{Start}
use Rattle.nvme_audit.specs.declared.facts.Sq.{Sq}
use Rattle.nvme_audit.specs.declared.facts.Cq.{Cq}
use Rattle.nvme_audit.specs.declared.facts.Command.{Command}
use Rattle.nvme_audit.specs.declared.commands.Commands.{Commands}
use Rattle.nvme_audit.specs.declared.judge.Judge.{Judge}
use Rattle.nvme_audit.specs.declared.repair.Gone.{Gone}
use Rattle.nvme_audit.specs.declared.repair.WholeJudge.{WholeJudge}
use Rattle.nvme_audit.specs.Lives.{Past}
use Rattle.nvme_audit.specs.Host.{is_lost}
use Rattle.nvme_audit.specs.Facts.{sq_after, cq_after, admin_after, outstanding}
use Rattle.nvme_audit.specs.Repairs.{Queue, All, SQ, CQ, is_let_go}

-- what is kept under a name
abbrev pub command_at : Commands → (sq cid : ℕ) → Option Command
command_at commands q c = get (λ x y. nat_eq x.0 y.0 && nat_eq x.1 y.1) commands.by_name (q, c)

-- what is kept of a queue, and otherwise what holds at the start
abbrev pub sq_at : Judge → ℕ → Sq
sq_at judge q = unwrap_or (get nat_eq judge.sqs q) (sq_after judge.start [] q)

abbrev pub cq_at : Judge → ℕ → Cq
cq_at judge q = unwrap_or (get nat_eq judge.cqs q) (cq_after judge.start [] q)

-- what a judge keeps is what the log says
pub record StandsAt (start : Start) (past : Past) (judge : Judge) : Type 0 where
  pub start_is : judge.start ≡ start
  pub sqs_are : (q : ℕ) → sq_at judge q ≡ sq_after start past q
  pub cqs_are : (q : ℕ) → cq_at judge q ≡ cq_after start past q
  pub admin_is : judge.admin ≡ admin_after past
  pub commands_are : (q c : ℕ) → command_at judge.commands q c ≡ outstanding past q c
  pub lost_is : judge.lost ≡ is_lost past

-- ---- where a judge goes on
abbrev pub gone_at : Gone → ℕ → Bool
gone_at gone q = unwrap_or (get nat_eq gone.by_id q) false

-- the queues that it let go
abbrev pub gone_in : WholeJudge → Queue → Bool
gone_in judge All = judge.all
gone_in judge (SQ q) = gone_at judge.sqs q
gone_in judge (CQ q) = gone_at judge.cqs q

pub record GoesOnAt (start : Start) (past : Past) (judge : WholeJudge) : Type 0 where
  pub stands : StandsAt start past judge.judge
  pub all_is : judge.all ≡ is_let_go start past All
  pub sqs_are : (q : ℕ) → gone_at judge.sqs q ≡ is_let_go start past (SQ q)
  pub cqs_are : (q : ℕ) → gone_at judge.cqs q ≡ is_let_go start past (CQ q)
