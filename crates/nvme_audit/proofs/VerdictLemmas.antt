-- What is said by what is kept is what is said by the log.
use Rattle.std.proofs.Common.{◌≡◌, ℕ, Bool, true, false, if◌then◌else◌, Option, is_some, ap, ◌∙◌}
use Rattle.nvme_entry.specs.declared.admin.AdminCommand.{AdminCommand}
use Rattle.nvme_audit.specs.declared.event.Event.{Event}
use Rattle.nvme_audit.specs.declared.event.Event.TheVariants.{Tail, Head, Fetch, Post}
use Rattle.nvme_audit.specs.declared.event.Completion.{Completion}
use Rattle.nvme_audit.specs.declared.facts.Start.{Start}
use Rattle.nvme_audit.specs.declared.facts.Sq.{Sq}
use Rattle.nvme_audit.specs.declared.facts.Cq.{Cq}
use Rattle.nvme_audit.specs.declared.facts.Admin.{Admin}
use Rattle.nvme_audit.specs.declared.facts.Command.{Command}
use Rattle.nvme_audit.specs.declared.judge.Judge.{Judge}
use Rattle.nvme_audit.specs.declared.verdict.Verdict.{Verdict}
use Rattle.nvme_audit.specs.declared.verdict.Verdict.TheVariants.{Kept}
use Rattle.nvme_audit.specs.Lives.{Past}
use Rattle.nvme_audit.specs.Facts.{sq_after, cq_after, admin_after, outstanding}
use Rattle.nvme_audit.specs.Host.{is_lost, tail_verdict, head_verdict}
use Rattle.nvme_audit.specs.Rules.{fetch_verdict, if_kept, post_verdict}
use Rattle.nvme_audit.specs.Turns.{sq_named, cq_named, cid_named}
use Rattle.nvme_audit.specs.Answers.{answered_in, answer_verdict}
use Rattle.nvme_audit.specs.Lawful.{ruled, verdict}
use Rattle.nvme_audit.specs.Standing.{sq_at, cq_at, command_at, StandsAt}
use Rattle.nvme_audit.specs.inside.Steps.{ruled_at}

abbrev judged : ℕ → Option ℕ → Completion → Start → (cq own_cq : Cq) → (sq own_sq : Sq) → Admin → (command target : Option Command) → Verdict
judged cqid slot completion start cq own_cq sq own_sq admin command target =
    if_kept (post_verdict start.tells cqid cq sq command slot completion) (answer_verdict start.tells cq own_cq sq own_sq admin command target completion)

judged_stands : (start : Start) (past : Past) (judge : Judge) (cq : ℕ) (slot : Option ℕ) (completion : Completion) (a : AdminCommand) (out : Option Command) → StandsAt start past judge
    → judged cq slot completion judge.start (cq_at judge cq) (cq_at judge (cq_named a)) (sq_at judge completion.sq) (sq_at judge (sq_named a)) judge.admin out (command_at judge.commands (sq_named a) (cid_named a))
    ≡ judged cq slot completion start (cq_after start past cq) (cq_after start past (cq_named a)) (sq_after start past completion.sq) (sq_after start past (sq_named a)) (admin_after past) out (outstanding past (sq_named a) (cid_named a))
judged_stands start past judge cq slot completion a out stands =
    ap (λ (s : Start). judged cq slot completion s (cq_at judge cq) (cq_at judge (cq_named a)) (sq_at judge completion.sq) (sq_at judge (sq_named a)) judge.admin out (command_at judge.commands (sq_named a) (cid_named a))) stands.start_is
    ∙ ap (λ (q : Cq). judged cq slot completion start q (cq_at judge (cq_named a)) (sq_at judge completion.sq) (sq_at judge (sq_named a)) judge.admin out (command_at judge.commands (sq_named a) (cid_named a))) (stands.cqs_are cq)
    ∙ ap (λ (q : Cq). judged cq slot completion start (cq_after start past cq) q (sq_at judge completion.sq) (sq_at judge (sq_named a)) judge.admin out (command_at judge.commands (sq_named a) (cid_named a))) (stands.cqs_are (cq_named a))
    ∙ ap (λ (s : Sq). judged cq slot completion start (cq_after start past cq) (cq_after start past (cq_named a)) s (sq_at judge (sq_named a)) judge.admin out (command_at judge.commands (sq_named a) (cid_named a))) (stands.sqs_are completion.sq)
    ∙ ap (λ (s : Sq). judged cq slot completion start (cq_after start past cq) (cq_after start past (cq_named a)) (sq_after start past completion.sq) s judge.admin out (command_at judge.commands (sq_named a) (cid_named a))) (stands.sqs_are (sq_named a))
    ∙ ap (λ (d : Admin). judged cq slot completion start (cq_after start past cq) (cq_after start past (cq_named a)) (sq_after start past completion.sq) (sq_after start past (sq_named a)) d out (command_at judge.commands (sq_named a) (cid_named a))) stands.admin_is
    ∙ ap (λ (t : Option Command). judged cq slot completion start (cq_after start past cq) (cq_after start past (cq_named a)) (sq_after start past completion.sq) (sq_after start past (sq_named a)) (admin_after past) out t) (stands.commands_are (sq_named a) (cid_named a))

ruled_stands : (start : Start) (past : Past) (judge : Judge) (event : Event) → StandsAt start past judge → ruled_at judge event ≡ ruled start past event
ruled_stands start past judge (Tail sq slot) stands = ap (λ (s : Sq). tail_verdict s slot) (stands.sqs_are sq)
ruled_stands start past judge (Head cq slot) stands = ap (λ (q : Cq). head_verdict q slot) (stands.cqs_are cq)
ruled_stands start past judge (Fetch sq slot cid command) stands =
    ap (λ (s : Start). fetch_verdict s.tells (sq_at judge sq) slot (is_some (command_at judge.commands sq cid))) stands.start_is
    ∙ ap (λ (s : Sq). fetch_verdict start.tells s slot (is_some (command_at judge.commands sq cid))) (stands.sqs_are sq)
    ∙ ap (λ (o : Option Command). fetch_verdict start.tells (sq_after start past sq) slot (is_some o)) (stands.commands_are sq cid)
ruled_stands start past judge (Post cq slot completion) stands =
    ap (λ (o : Option Command). judged cq slot completion judge.start (cq_at judge cq) (cq_at judge (cq_named (answered_in o completion))) (sq_at judge completion.sq) (sq_at judge (sq_named (answered_in o completion))) judge.admin o (command_at judge.commands (sq_named (answered_in o completion)) (cid_named (answered_in o completion)))) (stands.commands_are completion.sq completion.cid)
    ∙ judged_stands start past judge cq slot completion (answered_in (outstanding past completion.sq completion.cid) completion) (outstanding past completion.sq completion.cid) stands

pub said_stands : (start : Start) (past : Past) (judge : Judge) (event : Event) (rules said : Verdict) → StandsAt start past judge → rules ≡ ruled_at judge event → said ≡ (if judge.lost then Kept else rules) → said ≡ verdict start past event
said_stands start past judge event rules said stands r e =
    e ∙ ap (λ (b : Bool). if b then Kept else rules) stands.lost_is ∙ ap (λ (v : Verdict). if is_lost past then Kept else v) (r ∙ ruled_stands start past judge event stands)

pub not_both : (b : Bool) (P : Type 0) → b ≡ true → b ≡ false → P
not_both true P h g = cc
not_both false P h g = cc
