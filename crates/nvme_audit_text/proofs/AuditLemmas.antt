-- An auditor goes through the lines of a text.
use Rattle.std.proofs.Common.{◌≡◌, ℕ, ◌+◌, Bool, true, false, List, [], ◌∷◌, ◌++◌, reverse, Option, Some, None, Ok, inl, inr, refl, sym, ap, subst, ◌∙◌, arith}
use Rattle.std.specs.Prelude.{IfSome, IfOk, IfErr, MatchBool, Result, Err}
use Rattle.nvme_lines.specs.Lines.{lines_of, numbered, told_lines, TakesTold, HasNoTold, AreInAll}
use Rattle.nvme_arbiter.specs.History.{History}
use Rattle.nvme_judge.specs.Turns.{picks_in}
use Rattle.nvme_trace.specs.declared.records.Head.{Head as Arbitration}
use Rattle.nvme_audit.specs.declared.event.Event.{Event}
use Rattle.nvme_audit.specs.declared.facts.Start.{Start}
use Rattle.nvme_audit.specs.declared.judge.Judge.{Judge}
use Rattle.nvme_audit.specs.declared.verdict.Rule.{Rule}
use Rattle.nvme_audit.specs.declared.verdict.Verdict.{Verdict}
use Rattle.nvme_audit.specs.declared.verdict.Verdict.TheVariants.{Broken}
use Rattle.nvme_audit.specs.Lives.{Past}
use Rattle.nvme_audit.specs.Lawful.{is_broken}
use Rattle.nvme_audit.specs.Standing.{StandsAt}
use Rattle.nvme_audit_text.specs.Format.{Heard, head_of_line, said_of_line, event_of_line}
use Rattle.nvme_audit_text.specs.declared.fault.LogError.{LogError}
use Rattle.nvme_audit_text.specs.declared.fault.LogError.TheVariants as error
use Rattle.nvme_audit_text.specs.declared.views.View.{View}
use Rattle.nvme_audit_text.specs.declared.head.Head.{Head}
use Rattle.nvme_audit_text.specs.declared.audit.Finding.{Finding}
use Rattle.nvme_audit_text.specs.declared.audit.Audit.{Audit}
use Rattle.nvme_audit_text.specs.declared.audit.Auditor.{Auditor}
use Rattle.nvme_audit_text.specs.declared.audit.Broken.TheVariants as broken
use Rattle.nvme_audit_text.specs.declared.picks.PickAuditor.{PickAuditor}
use Rattle.nvme_audit_text.specs.declared.picks.PickFinding.{PickFinding}
use Rattle.nvme_audit_text.specs.Picks.{arbitration_of, IsAllowedBefore}
use Rattle.nvme_audit_text.specs.Audits.{added, host_at, asked_in, IsLawfulText, IsBrokenText, IsUnlawfulText, IsAudit, IsFault, IsFound}
use Rattle.nvme_audit_text.specs.inside.Steps.{IsTaken, IsOther, AuditsAt, IsFinding, IsHeadFault, IsEventFault, AuditedUpTo, PicksAt, IsUnlawful, AllowedUpTo}
use Rattle.nvme_audit_text.proofs.PickLemmas.{reverse_more, allowed_same}

-- ---- one event
match_true : (P Q : Type 0) (b : Bool) → b ≡ true → MatchBool b P Q → P
match_true P Q true h m = m
match_true P Q false h m = cc

match_false : (P Q : Type 0) (b : Bool) → b ≡ false → MatchBool b P Q → Q
match_false P Q true h m = cc
match_false P Q false h m = m

-- the controller breaks one
pub audits_broken : (start : Start) (past : Past) (found : List Finding) (event : Event) (said : Verdict) (rule : Rule) (old new : Auditor) (judge : Judge) → IsTaken start past event said old.judge judge → said ≡ Broken rule
    → new.judge ≡ judge → new.host_breaches ≡ old.host_breaches → new.host.items ≡ old.host.items → AuditsAt start past found old → AuditsAt start past found new
audits_broken start past found event said rule old new judge taken broken there same told at = record {
  stands = subst (StandsAt start past) (sym (there ∙ match_true _ _ (is_broken said) (ap is_broken broken) taken.after)) at.stands;
  lawful = at.lawful;
  host = same ∙ at.host;
  told = told ∙ at.told;
}

-- ---- one line
-- after the head
pub audited_head : (view : View) (text : List ℕ) (n : ℕ) (new : Option (List ℕ)) (head : Head) (auditor : Auditor) → TakesTold (λ line. head_of_line view line ≡ Ok head) 0 (Some text) n new
    → AuditsAt head.start [] [] auditor → auditor.asked ≡ asked_in head.start [] → AuditedUpTo view text new n head auditor
audited_head view text n None head auditor t at none = t
audited_head view text n (Some rest) head auditor (line, split, is, count) at none = record {
  past = [];
  found = [];
  in_all = omega (arith, count);
  before = record { first = (n, line); lines = []; split = split; head_is = is; tells = (refl, refl); lawful = tt };
  audits = at;
  counted = none;
}

-- after one line more
pub audited_more : (view : View) (text : List ℕ) (m : ℕ) (old : Option (List ℕ)) (n : ℕ) (new : Option (List ℕ)) (head : Head) (auditor next : Auditor) (said : Option Event)
    → AuditedUpTo view text old m head auditor → TakesTold (λ line. event_of_line view head line ≡ Ok said) m old n new
    → ((past : Past) (found : List Finding) → AuditsAt head.start past found auditor → AuditsAt head.start (added said past) (found ++ host_at head.start past n said) next)
    → ((past : Past) → StandsAt head.start past auditor.judge → auditor.asked ≡ asked_in head.start past → next.asked ≡ asked_in head.start (added said past)) → AuditedUpTo view text new n head next
audited_more view text m None n new head auditor next said j t f g = absurd j
audited_more view text m (Some xs) n None head auditor next said j t f g = absurd t
audited_more view text m (Some xs) n (Some ys) head auditor next said j (line, split, is, count) f g =
    let at : AuditsAt head.start (added said j.past) (j.found ++ host_at head.start j.past n said) next = f j.past j.found j.audits in record {
      past = added said j.past;
      found = j.found ++ host_at head.start j.past n said;
      in_all = j.in_all ∙ count;
      before = record {
        first = j.before.first;
        lines = (n, line) ∷ j.before.lines;
        split = j.before.split ∙ ap (λ (ls : List (ℕ × List ℕ)). j.before.first ∷ (reverse j.before.lines ++ ls)) split ∙ ap (λ (ls : List (ℕ × List ℕ)). j.before.first ∷ ls) (reverse_more (n, line) j.before.lines (numbered n (lines_of ys)));
        head_is = j.before.head_is;
        tells = (said, j.past, j.found, is, refl, refl, j.before.tells);
        lawful = at.lawful;
      };
      audits = at;
      counted = g j.past j.audits.stands j.counted;
    }

-- after the last line
pub audited_all : (view : View) (text : List ℕ) (old : Option (List ℕ)) (number : ℕ) (head : Head) (auditor : Auditor) (picks : PickAuditor) (audit : Audit) → AuditedUpTo view text old number head auditor → AllowedUpTo view text old number head picks
    → HasNoTold number old → AreInAll number old audit.lines → audit.picks ≡ picks.judged → audit.broken ≡ None → audit.host_breaches ≡ auditor.host_breaches → audit.host.items ≡ auditor.host.items → audit.asked ≡ auditor.asked → IsAudit view text audit
audited_all view text None number head auditor picks audit j p n all count none host told asked = absurd j
audited_all view text (Some xs) number head auditor picks audit j p n all count none host told asked =
    let whole : IsLawfulText view text audit = record {
      head = head;
      past = j.past;
      found = j.found;
      whole = record {
        first = j.before.first;
        lines = j.before.lines;
        split = j.before.split ∙ ap (λ (ls : List (ℕ × List ℕ)). j.before.first ∷ (reverse j.before.lines ++ ls)) n;
        head_is = j.before.head_is;
        tells = j.before.tells;
        lawful = j.before.lawful;
      };
      lines_are = all ∙ sym j.in_all;
      host_is = host ∙ j.audits.host;
      told_are = told ∙ j.audits.told;
      asked_are = asked ∙ j.counted;
      history = p.past;
      allowed = allowed_same view text (numbered number (lines_of xs)) [] head p.past n p.before;
      picks_are = count ∙ p.at.judged;
    } in subst (IsFound view text audit) (sym none) whole

-- at a line at which the controller breaks a rule
pub audited_finding : (view : View) (text : List ℕ) (m : ℕ) (old : Option (List ℕ)) (n : ℕ) (new : Option (List ℕ)) (head : Head) (auditor next : Auditor) (picks : PickAuditor) (said : Option Event) (finding : Finding) (audit : Audit)
    → AuditedUpTo view text old m head auditor → AllowedUpTo view text old m head picks → TakesTold (λ line. event_of_line view head line ≡ Ok said) m old n new
    → ((past : Past) (found : List Finding) → AuditsAt head.start past found auditor → IsFinding head.start past n said finding × AuditsAt head.start past found next)
    → ((past : Past) → StandsAt head.start past auditor.judge → auditor.asked ≡ asked_in head.start past → next.asked ≡ asked_in head.start (added said past))
    → audit.lines ≡ n → audit.picks ≡ picks.judged → audit.broken ≡ Some (broken.OfQueues finding) → audit.host_breaches ≡ next.host_breaches → audit.host.items ≡ next.host.items → audit.asked ≡ next.asked → IsAudit view text audit
audited_finding view text m None n new head auditor next picks said finding audit j p t f g lines judged broken host told asked = absurd j
audited_finding view text m (Some xs) n None head auditor next picks said finding audit j p t f g lines judged broken host told asked = absurd t
audited_finding view text m (Some xs) n (Some ys) head auditor next picks said finding audit j p (line, split, is, count) f g lines judged broken host told asked =
    let (of, at) = f j.past j.found j.audits in
    let first : IsBrokenText view text audit finding = record {
      head = head;
      past = j.past;
      found = j.found;
      line = line;
      later = numbered n (lines_of ys);
      before = record {
        first = j.before.first;
        lines = j.before.lines;
        split = subst (λ (k : ℕ). told_lines text ≡ j.before.first ∷ (reverse j.before.lines ++ (k, line) ∷ numbered n (lines_of ys))) (sym of.line_is)
            (j.before.split ∙ ap (λ (ls : List (ℕ × List ℕ)). j.before.first ∷ (reverse j.before.lines ++ ls)) split);
        head_is = j.before.head_is;
        tells = j.before.tells;
        lawful = j.before.lawful;
      };
      lines_are = lines ∙ sym of.line_is;
      host_is = host ∙ at.host;
      told_are = told ∙ at.told;
      asked_are = asked ∙ g j.past j.audits.stands j.counted ∙ ap (λ (o : Option Event). asked_in head.start (added o j.past)) of.event_is;
      says = is ∙ ap (λ (o : Option Event). Ok o) of.event_is;
      said_is = of.said_is;
      facts_are = of.facts_are;
      broken = of.broken;
      history = p.past;
      allowed = subst (λ (k : ℕ). IsAllowedBefore view text ((k, line) ∷ numbered n (lines_of ys)) head p.past) (sym of.line_is) (allowed_same view text (numbered m (lines_of xs)) ((n, line) ∷ numbered n (lines_of ys)) head p.past split p.before);
      picks_are = judged ∙ p.at.judged;
    } in subst (IsFound view text audit) (sym broken) first

-- at a line whose pick breaks a rule
pub audited_unlawful : (view : View) (text : List ℕ) (m : ℕ) (old : Option (List ℕ)) (n : ℕ) (new : Option (List ℕ)) (head : Head) (auditor : Auditor) (picks next : PickAuditor) (said : Heard) (finding : PickFinding) (audit : Audit)
    → AuditedUpTo view text new n head auditor → AllowedUpTo view text old m head picks → TakesTold (λ line. said_of_line view head line ≡ Ok said) m old n new
    → ((arbitration : Arbitration) (past : History) → PicksAt arbitration past picks → IsUnlawful arbitration past n said finding × (next.judged ≡ picks_in past + 1))
    → audit.lines ≡ n → audit.picks ≡ next.judged → audit.broken ≡ Some (broken.OfArbitration finding) → audit.host_breaches ≡ auditor.host_breaches → audit.host.items ≡ auditor.host.items → audit.asked ≡ auditor.asked → IsAudit view text audit
audited_unlawful view text m None n new head auditor picks next said finding audit j p t f lines judged broken host told asked = absurd p
audited_unlawful view text m (Some xs) n None head auditor picks next said finding audit j p t f lines judged broken host told asked = absurd t
audited_unlawful view text m (Some xs) n (Some ys) head auditor picks next said finding audit j p (line, split, is, count) f lines judged broken host told asked =
    let ((event, said_is, of), one) = f (arbitration_of head) p.past p.at in
    let first : IsUnlawfulText view text audit finding = record {
      head = head;
      past = j.past;
      found = j.found;
      history = p.past;
      event = event;
      line = line;
      later = numbered n (lines_of ys);
      allowed = subst (λ (k : ℕ). IsAllowedBefore view text ((k, line) ∷ numbered n (lines_of ys)) head p.past) (sym of.line_is) (allowed_same view text (numbered m (lines_of xs)) ((n, line) ∷ numbered n (lines_of ys)) head p.past split p.before);
      lawful = j.before;
      lines_are = lines ∙ sym of.line_is;
      host_is = host ∙ j.audits.host;
      told_are = told ∙ j.audits.told;
      asked_are = asked ∙ j.counted;
      picks_are = judged ∙ one;
      says = is ∙ ap (λ (s : Heard). Ok s) said_is;
      breach_is = of.breach_is;
    } in subst (IsFound view text audit) (sym broken) first

-- at a line that is faulty
pub audited_fault : (view : View) (text : List ℕ) (old : Option (List ℕ)) (number : ℕ) (head : Head) (auditor : Auditor) (picks : PickAuditor) (e : LogError) → AuditedUpTo view text old number head auditor → AllowedUpTo view text old number head picks → IsEventFault view head e number old → IsFault view text e
audited_fault view text None number head auditor picks e j p f = absurd j
audited_fault view text (Some xs) number head auditor picks (error.Line line fault note) j p (quoted, rest, split, is) =
    inr (inr (record {
      head = head;
      past = j.past;
      found = j.found;
      quoted = quoted;
      later = rest;
      before = record {
        first = j.before.first;
        lines = j.before.lines;
        split = j.before.split ∙ ap (λ (ls : List (ℕ × List ℕ)). j.before.first ∷ (reverse j.before.lines ++ ls)) split;
        head_is = j.before.head_is;
        tells = j.before.tells;
        lawful = j.before.lawful;
      };
      history = p.past;
      allowed = allowed_same view text (numbered number (lines_of xs)) ((line, quoted) ∷ rest) head p.past split p.before;
      is = is;
    }))
audited_fault view text (Some xs) number head auditor picks error.Read j p f = tt
audited_fault view text (Some xs) number head auditor picks error.TooLong j p f = tt
audited_fault view text (Some xs) number head auditor picks error.NoMemory j p f = tt

-- an error that tells no fault of a line
pub other_fault : (view : View) (text : List ℕ) (e : LogError) → IsOther e → IsFault view text e
other_fault view text (error.Line line fault note) o = absurd o
other_fault view text error.Read o = tt
other_fault view text error.TooLong o = tt
other_fault view text error.NoMemory o = tt

-- ---- the whole text
pub head_fault : (view : View) (known : Option (List ℕ)) (e : LogError) → IsHeadFault view e 0 known → IfSome known (λ text. IsFault view text e)
head_fault view None e f = tt
head_fault view (Some text) (error.Line line fault note) (inl none) = inl (none.0, none.2, none.1)
head_fault view (Some text) (error.Line line fault note) (inr (first, later, split, is)) = inr (inl (record { first = first; later = later; split = split; is = is }))
head_fault view (Some text) error.Read f = tt
head_fault view (Some text) error.TooLong f = tt
head_fault view (Some text) error.NoMemory f = tt

pub later : (view : View) (P : List ℕ → Type 0) (known : Option (List ℕ)) (n : ℕ) (new : Option (List ℕ)) (head : Head) → TakesTold (λ line. head_of_line view line ≡ Ok head) 0 known n new
    → ((text : List ℕ) → TakesTold (λ line. head_of_line view line ≡ Ok head) 0 (Some text) n new → P text) → IfSome known P
later view P None n new head t h = tt
later view P (Some text) n new head t h = h text t

pub all_answers : {A : Type 0} (view : View) (P : List ℕ → A → Type 0) (known : Option (List ℕ)) (n : ℕ) (new : Option (List ℕ)) (head : Head) (r : Result A LogError) → TakesTold (λ line. head_of_line view line ≡ Ok head) 0 known n new
    → IfOk r (λ a. (text : List ℕ) → TakesTold (λ line. head_of_line view line ≡ Ok head) 0 (Some text) n new → P text a)
    → IfOk r (λ a. IfSome known (λ text. P text a))
all_answers view P known n new head (Ok x) t h = later view (λ text. P text x) known n new head t h
all_answers view P known n new head (Err e) t h = tt

pub all_faults : {A : Type 0} (view : View) (P : List ℕ → LogError → Type 0) (known : Option (List ℕ)) (n : ℕ) (new : Option (List ℕ)) (head : Head) (r : Result A LogError) → TakesTold (λ line. head_of_line view line ≡ Ok head) 0 known n new
    → IfErr r (λ e. (text : List ℕ) → TakesTold (λ line. head_of_line view line ≡ Ok head) 0 (Some text) n new → P text e)
    → IfErr r (λ e. IfSome known (λ text. P text e))
all_faults view P known n new head (Ok x) t h = tt
all_faults view P known n new head (Err e) t h = later view (λ text. P text e) known n new head t h
