-- An auditor that goes on goes through the lines of a text.
use Rattle.std.proofs.Common.{◌≡◌, ℕ, List, [], ◌∷◌, ◌++◌, Option, Some, None, Ok, inl, inr, refl, sym, ap, subst, ◌∙◌, arith}
use Rattle.std.specs.Prelude.{IfSome}
use Rattle.nvme_lines.specs.Lines.{lines_of, numbered, TakesTold, HasNoTold, AreInAll}
use Rattle.nvme_audit.specs.declared.event.Event.{Event}
use Rattle.nvme_audit.specs.Lives.{Past}
use Rattle.nvme_audit.specs.Lawful.{is_broken}
use Rattle.nvme_audit_text.specs.Format.{head_of_line, event_of_line}
use Rattle.nvme_audit_text.specs.declared.fault.LogError.{LogError}
use Rattle.nvme_audit_text.specs.declared.fault.LogError.TheVariants as error
use Rattle.nvme_audit_text.specs.declared.views.View.{View}
use Rattle.nvme_audit_text.specs.declared.head.Head.{Head}
use Rattle.nvme_audit_text.specs.declared.audit.Finding.{Finding}
use Rattle.nvme_audit_text.specs.declared.whole.WholeAudit.{WholeAudit}
use Rattle.nvme_audit_text.specs.declared.whole.WholeAuditor.{WholeAuditor}
use Rattle.nvme_audit_text.specs.declared.picks.WholePicks.{WholePicks}
use Rattle.nvme_audit_text.specs.Picks.{AreToldPicks}
use Rattle.nvme_audit_text.specs.Audits.{added, is_host, most_told}
use Rattle.nvme_audit_text.specs.WholeAudits.{told_at, most_broken, AreTold, IsJudgedBefore, IsWholeAudit, IsWholeFault}
use Rattle.nvme_audit_text.specs.inside.Steps.{IsOther, IsHeadFault, IsEventFault, GoesOn, JudgedUpTo, SaidUpTo}
use Rattle.nvme_audit_text.proofs.PickLemmas.{reverse_more, said_same}

-- ---- lines before others
later_same : (view : View) (text : List ℕ) (later other : List (ℕ × List ℕ)) (head : Head) (past : Past) (broken hosts : List Finding) → later ≡ other → IsJudgedBefore view text later head past broken hosts → IsJudgedBefore view text other head past broken hosts
later_same view text later other head past broken hosts same before = subst (λ (ls : List (ℕ × List ℕ)). IsJudgedBefore view text ls head past broken hosts) same before

-- one line more
line_more : (view : View) (text : List ℕ) (n : ℕ) (line : List ℕ) (later : List (ℕ × List ℕ)) (head : Head) (past : Past) (broken hosts : List Finding) (said : Option Event)
    → IsJudgedBefore view text ((n, line) ∷ later) head past broken hosts → event_of_line view head line ≡ Ok said
    → IsJudgedBefore view text later head (added said past) (broken ++ told_at is_broken head.start past n said) (hosts ++ told_at is_host head.start past n said)
line_more view text n line later head past broken hosts said before is = record {
  first = before.first;
  lines = (n, line) ∷ before.lines;
  split = before.split ∙ ap (λ (ls : List (ℕ × List ℕ)). before.first ∷ ls) (reverse_more (n, line) before.lines later);
  head_is = before.head_is;
  tells_broken = (said, past, broken, is, refl, refl, before.tells_broken);
  tells_hosts = (said, past, hosts, is, refl, refl, before.tells_hosts);
}

-- ---- the loop
-- after the head
pub judged_head : (view : View) (text : List ℕ) (n : ℕ) (new : Option (List ℕ)) (head : Head) (auditor : WholeAuditor) → TakesTold (λ line. head_of_line view line ≡ Ok head) 0 (Some text) n new
    → GoesOn head.start [] [] [] auditor → JudgedUpTo view text new n head auditor
judged_head view text n None head auditor t at = t
judged_head view text n (Some rest) head auditor (line, split, is, count) at = record {
  past = [];
  broken = [];
  hosts = [];
  in_all = omega (arith, count);
  before = record { first = (n, line); lines = []; split = split; head_is = is; tells_broken = (refl, refl); tells_hosts = (refl, refl) };
  goes_on = at;
}

-- after one line more
pub judged_more : (view : View) (text : List ℕ) (m : ℕ) (old : Option (List ℕ)) (n : ℕ) (new : Option (List ℕ)) (head : Head) (auditor next : WholeAuditor) (said : Option Event)
    → JudgedUpTo view text old m head auditor → TakesTold (λ line. event_of_line view head line ≡ Ok said) m old n new
    → ((past : Past) (broken hosts : List Finding) → GoesOn head.start past broken hosts auditor → GoesOn head.start (added said past) (broken ++ told_at is_broken head.start past n said) (hosts ++ told_at is_host head.start past n said) next)
    → JudgedUpTo view text new n head next
judged_more view text m None n new head auditor next said j t f = absurd j
judged_more view text m (Some xs) n None head auditor next said j t f = absurd t
judged_more view text m (Some xs) n (Some ys) head auditor next said j (line, split, is, count) f = record {
  past = added said j.past;
  broken = j.broken ++ told_at is_broken head.start j.past n said;
  hosts = j.hosts ++ told_at is_host head.start j.past n said;
  in_all = j.in_all ∙ count;
  before = line_more view text n line (numbered n (lines_of ys)) head j.past j.broken j.hosts said (later_same view text (numbered m (lines_of xs)) ((n, line) ∷ numbered n (lines_of ys)) head j.past j.broken j.hosts split j.before) is;
  goes_on = f j.past j.broken j.hosts j.goes_on;
}

-- after the last line
pub judged_all : (view : View) (text : List ℕ) (old : Option (List ℕ)) (number : ℕ) (head : Head) (auditor : WholeAuditor) (picks : WholePicks) (audit : WholeAudit) → JudgedUpTo view text old number head auditor → SaidUpTo view text old number head picks
    → HasNoTold number old → AreInAll number old audit.lines → audit.unlawful ≡ picks.unlawful → audit.picks ≡ picks.judged → audit.broken ≡ auditor.broken → audit.host ≡ auditor.host → audit.asked ≡ auditor.asked → IsWholeAudit view text audit
judged_all view text None number head auditor picks audit j p n all unlawful judged broken host asked = absurd j
judged_all view text (Some xs) number head auditor picks audit j p n all unlawful judged broken host asked = record {
  head = head;
  past = j.past;
  broken = j.broken;
  hosts = j.hosts;
  whole = later_same view text (numbered number (lines_of xs)) [] head j.past j.broken j.hosts n j.before;
  lines_are = all ∙ sym j.in_all;
  broken_are = subst (AreTold most_broken j.broken) (sym broken) j.goes_on.broken_are;
  hosts_are = subst (AreTold most_told j.hosts) (sym host) j.goes_on.hosts_are;
  asked_are = asked ∙ j.goes_on.asked_are;
  said = p.said;
  picks = said_same view text (numbered number (lines_of xs)) [] head p.said n p.before;
  unlawful_are = subst (AreToldPicks most_broken p.said.found) (sym unlawful) p.at.found_are;
  picks_are = judged ∙ p.at.judged_are;
}

-- at a line that is faulty
pub judged_fault : (view : View) (text : List ℕ) (old : Option (List ℕ)) (number : ℕ) (head : Head) (auditor : WholeAuditor) (e : LogError) → JudgedUpTo view text old number head auditor → IsEventFault view head e number old → IsWholeFault view text e
judged_fault view text None number head auditor e j f = absurd j
judged_fault view text (Some xs) number head auditor (error.Line line fault note) j (quoted, rest, split, is) =
    inr (inr (record {
      head = head;
      past = j.past;
      broken = j.broken;
      hosts = j.hosts;
      quoted = quoted;
      later = rest;
      before = later_same view text (numbered number (lines_of xs)) ((line, quoted) ∷ rest) head j.past j.broken j.hosts split j.before;
      is = is;
    }))
judged_fault view text (Some xs) number head auditor error.Read j f = tt
judged_fault view text (Some xs) number head auditor error.TooLong j f = tt
judged_fault view text (Some xs) number head auditor error.NoMemory j f = tt

-- an error that tells no fault of a line
pub other_fault : (view : View) (text : List ℕ) (e : LogError) → IsOther e → IsWholeFault view text e
other_fault view text (error.Line line fault note) o = absurd o
other_fault view text error.Read o = tt
other_fault view text error.TooLong o = tt
other_fault view text error.NoMemory o = tt

-- the head
pub head_fault : (view : View) (known : Option (List ℕ)) (e : LogError) → IsHeadFault view e 0 known → IfSome known (λ text. IsWholeFault view text e)
head_fault view None e f = tt
head_fault view (Some text) (error.Line line fault note) (inl none) = inl (none.0, none.2, none.1)
head_fault view (Some text) (error.Line line fault note) (inr (first, later, split, is)) = inr (inl (record { first = first; later = later; split = split; is = is }))
head_fault view (Some text) error.Read f = tt
head_fault view (Some text) error.TooLong f = tt
head_fault view (Some text) error.NoMemory f = tt
