-- A judge that goes on after breaches of the controller.
use Rattle.std.proofs.Common.{◌≡◌, ℕ, ◌&&◌, ◌||◌, not, Bool, true, false, [], ◌∷◌, Option, None, Some, refl, sym, subst, ap, ◌∙◌}
use Rattle.nvme_entry.specs.declared.admin.AdminCommand.{AdminCommand}
use Rattle.nvme_audit.specs.declared.event.Event.{Event}
use Rattle.nvme_audit.specs.declared.facts.Start.{Start}
use Rattle.nvme_audit.specs.declared.repair.Gone.{Gone}
use Rattle.nvme_audit.specs.declared.repair.WholeJudge.{WholeJudge}
use Rattle.nvme_audit.specs.declared.verdict.Verdict.{Verdict}
use Rattle.nvme_audit.specs.declared.verdict.Verdict.TheVariants.{Kept, Host, Broken}
use Rattle.nvme_audit.specs.Lives.{Past}
use Rattle.nvme_audit.specs.Turns.{sq_named, cq_named}
use Rattle.nvme_audit.specs.Lawful.{verdict, is_broken, IsLawfulLog}
use Rattle.nvme_audit.specs.Repairs.{lets_go, sq_in, cq_in, answered_at, done_at, Queue, All, SQ, CQ, is_of, turns, is_gone, is_among, unless, is_let_go, is_passed_over, said}
use Rattle.nvme_audit.specs.RepairLaws.{FirstBreachIsTold}
use Rattle.nvme_audit.specs.Standing.{StandsAt, gone_at, gone_in, GoesOnAt}
use Rattle.nvme_audit.specs.inside.Steps.{LetsGo, Reopens}

-- ---- queues among those that are gone
gone_same : (f g : ℕ → Bool) (o : Option ℕ) → ((q : ℕ) → f q ≡ g q) → is_gone f o ≡ is_gone g o
gone_same f g None same = refl
gone_same f g (Some q) same = same q

abbrev any : (a b c d e : Bool) → Bool
any a b c d e = a || b || c || d || e

any_same : (a b c d e k l m n o : Bool) → a ≡ k → b ≡ l → c ≡ m → d ≡ n → e ≡ o → any a b c d e ≡ any k l m n o
any_same a b c d e k l m n o p q r s t =
    ap (λ (x : Bool). any x b c d e) p ∙ (ap (λ (x : Bool). any k x c d e) q ∙ (ap (λ (x : Bool). any k l x d e) r ∙ (ap (λ (x : Bool). any k l m x e) s ∙ ap (λ (x : Bool). any k l m n x) t)))

among_same : (f g : Queue → Bool) (command : AdminCommand) (event : Event) → f All ≡ g All → ((q : ℕ) → f (SQ q) ≡ g (SQ q)) → ((q : ℕ) → f (CQ q) ≡ g (CQ q)) → is_among f command event ≡ is_among g command event
among_same f g command event every sqs cqs =
    any_same (f All) (is_gone (λ q. f (SQ q)) (sq_in event)) (is_gone (λ q. f (CQ q)) (cq_in event)) (f (SQ (sq_named command))) (f (CQ (cq_named command)))
    (g All) (is_gone (λ q. g (SQ q)) (sq_in event)) (is_gone (λ q. g (CQ q)) (cq_in event)) (g (SQ (sq_named command))) (g (CQ (cq_named command)))
    every
    (gone_same (λ q. f (SQ q)) (λ q. g (SQ q)) (sq_in event) sqs)
    (gone_same (λ q. f (CQ q)) (λ q. g (CQ q)) (cq_in event) cqs)
    (sqs (sq_named command))
    (cqs (cq_named command))

pub among_stands : (start : Start) (past : Past) (judge : WholeJudge) (command : AdminCommand) (event : Event) → GoesOnAt start past judge
    → is_among (gone_in judge) command event ≡ is_among (λ queue. is_let_go start past queue) command event
among_stands start past judge command event at = among_same (gone_in judge) (λ queue. is_let_go start past queue) command event at.all_is at.sqs_are at.cqs_are

-- ---- one event more
pub said_is : (start : Start) (past : Past) (event : Event) (passed : Bool) (v : Verdict) → passed ≡ is_passed_over start past event → v ≡ verdict start past event → unless passed v ≡ said start past event
said_is start past event passed v is same = ap (λ (b : Bool). unless b v) is ∙ ap (unless (is_passed_over start past event)) same

abbrev left : (turned going of before : Bool) → Bool
left turned going of before = not turned && ((of && going) || before)

-- what is gone of one kind
gone_more : (start : Start) (past : Past) (event : Event) (queue : Queue) (told : Verdict) (command : AdminCommand) (new before : Bool)
    → new ≡ left (turns command queue) (lets_go told) (is_of event queue) before
    → before ≡ is_let_go start past queue
    → told ≡ said start past event
    → command ≡ done_at past event
    → new ≡ is_let_go start (event ∷ past) queue
gone_more start past event queue told command new before is was says does =
    is
    ∙ (ap (λ (b : Bool). left (turns command queue) (lets_go told) (is_of event queue) b) was
    ∙ (ap (λ (v : Verdict). left (turns command queue) (lets_go v) (is_of event queue) (is_let_go start past queue)) says
    ∙ ap (λ (a : AdminCommand). left (turns a queue) (lets_go (said start past event)) (is_of event queue) (is_let_go start past queue)) does))

pub goes_on : (start : Start) (past : Past) (old mid gone new : WholeJudge) (event : Event) (told : Verdict) (command : AdminCommand)
    → GoesOnAt start past old
    → StandsAt start (event ∷ past) mid.judge
    → mid.all ≡ old.all
    → mid.sqs ≡ old.sqs
    → mid.cqs ≡ old.cqs
    → told ≡ said start past event
    → command ≡ done_at past event
    → LetsGo mid gone told event
    → Reopens gone new command
    → GoesOnAt start (event ∷ past) new
goes_on start past old mid gone new event told command at stands every sqs cqs says does lets reopens = record {
  stands = subst (StandsAt start (event ∷ past)) (sym (reopens.judge_stays ∙ lets.judge_stays)) stands;
  all_is = gone_more start past event All told command new.all mid.all (reopens.all_stays ∙ lets.all_is) (every ∙ at.all_is) says does;
  sqs_are = λ q. gone_more start past event (SQ q) told command (gone_at new.sqs q) (gone_at mid.sqs q)
      (reopens.sqs_are q ∙ ap (λ (b : Bool). not (turns command (SQ q)) && b) (lets.sqs_are q))
      (ap (λ (g : Gone). gone_at g q) sqs ∙ at.sqs_are q) says does;
  cqs_are = λ q. gone_more start past event (CQ q) told command (gone_at new.cqs q) (gone_at mid.cqs q)
      (reopens.cqs_are q ∙ ap (λ (b : Bool). not (turns command (CQ q)) && b) (lets.cqs_are q))
      (ap (λ (g : Gone). gone_at g q) cqs ∙ at.cqs_are q) says does;
}

-- ---- before the first breach
still_here : (turned going of before : Bool) → going ≡ false → before ≡ false → left turned going of before ≡ false
still_here true going of before h g = refl
still_here false going false before h g = g
still_here false true true before h g = cc
still_here false false true before h g = g

keeps_all : (passed : Bool) (v : Verdict) → is_broken v ≡ false → lets_go (unless passed v) ≡ false
keeps_all passed Kept h = refl
keeps_all true (Host breach) h = refl
keeps_all false (Host breach) h = refl
keeps_all passed (Broken rule) h = cc

none_gone : (start : Start) (past : Past) (queue : Queue) → IsLawfulLog start past → is_let_go start past queue ≡ false
none_gone start [] queue lawful = refl
none_gone start (event ∷ past) queue lawful =
    still_here (turns (done_at past event) queue) (lets_go (said start past event)) (is_of event queue) (is_let_go start past queue)
    (keeps_all (is_passed_over start past event) (verdict start past event) lawful.0)
    (none_gone start past queue lawful.1)

nobody : (o : Option ℕ) → is_gone (λ q. false) o ≡ false
nobody None = refl
nobody (Some q) = refl

none_among : (command : AdminCommand) (event : Event) → is_among (λ queue. false) command event ≡ false
none_among command event = any_same false (is_gone (λ q. false) (sq_in event)) (is_gone (λ q. false) (cq_in event)) false false false false false false false refl (nobody (sq_in event)) (nobody (cq_in event)) refl refl

all_said : (v : Verdict) → unless false v ≡ v
all_said Kept = refl
all_said (Host breach) = refl
all_said (Broken rule) = refl

pub first_told : FirstBreachIsTold
first_told start past event lawful =
    ap (λ (b : Bool). unless b (verdict start past event))
    (among_same (λ queue. is_let_go start past queue) (λ queue. false) (answered_at past event) event (none_gone start past All lawful) (λ q. none_gone start past (SQ q) lawful) (λ q. none_gone start past (CQ q) lawful)
    ∙ none_among (answered_at past event) event)
    ∙ all_said (verdict start past event)
