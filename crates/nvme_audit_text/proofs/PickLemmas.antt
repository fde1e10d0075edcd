-- Auditors of picks go through the lines of a text.
use Rattle.std.proofs.Common.{◌≡◌, ℕ, ◌+◌, ◌<◌, ◌≤◌, zero, suc, true, false, List, [], ◌∷◌, ◌++◌, reverse, length, take, Option, Some, None, Ok, inl, inr, refl, sym, ap, subst, ◌∙◌, append-nil, append_assoc, arith}
use Rattle.std.specs.Prelude.{IfNone, OnOk, MatchOption, Result, Err}
use Rattle.std.proofs.lemmas.Bool.{false≢true}
use Rattle.std.proofs.lemmas.List.{length-append}
use mathlib.Core.List.{reverse-cons}
use Rattle.nvme_lines.specs.Lines.{lines_of, numbered, TakesTold}
use Rattle.nvme_arbiter.specs.Settings.{ArbitrationFields}
use Rattle.nvme_arbiter.specs.History.{ArbitrationEvent, Picked, Changed, History}
use Rattle.nvme_arbiter.specs.Standing.{nothing_used}
use Rattle.nvme_arbiter.specs.declared.pick.Pick.{Pick}
use Rattle.nvme_arbiter.specs.declared.pick.Seen.{Seen}
use Rattle.nvme_arbiter.specs.declared.settings.Mechanism.{Mechanism}
use Rattle.nvme_arbiter.specs.declared.settings.Mechanism.TheVariants.{RoundRobin, Weighted}
use Rattle.nvme_judge.specs.Standing.{JudgeView, JudgeStandsAt, UsedIs}
use Rattle.nvme_trace.specs.Bases.{IsSpecifiedEvent, IsBreach}
use Rattle.nvme_trace.specs.Judged.{IsObserved}
use Rattle.nvme_trace.specs.declared.judges.Breach.{Breach}
use Rattle.nvme_trace.specs.declared.records.Head.{Head as Arbitration}
use Rattle.nvme_audit_text.specs.Format.{Heard, arbitration_heard, arbitration_told, head_of_line, said_of_line}
use Rattle.nvme_audit_text.specs.Picks.{arbitration_of, joined, history_of, IsAllowed, IsAllowedBefore, PicksSaid, SaysOf, AreToldPicks, IsSaidBefore, nothing_said, Span, SaysOfPick}
use Rattle.nvme_audit_text.specs.WholeAudits.{most_broken}
use Rattle.nvme_audit_text.specs.declared.views.View.{View}
use Rattle.nvme_audit_text.specs.declared.head.Head.{Head}
use Rattle.nvme_audit_text.specs.declared.picks.PickAuditor.{PickAuditor}
use Rattle.nvme_audit_text.specs.declared.picks.PickFinding.{PickFinding}
use Rattle.nvme_audit_text.specs.declared.picks.ToldPicks.{ToldPicks}
use Rattle.nvme_audit_text.specs.declared.picks.WholePicks.{WholePicks}
use Rattle.nvme_audit_text.specs.inside.Steps.{PicksAt, IsKeptEvent, AllowedUpTo, SpanIs, PicksGoOn, GoesOnWith, IsPick, SaidUpTo}

-- ---- one event
-- a judge begins with a round
pub used_first : (mechanism : Mechanism) (settings : ArbitrationFields) → UsedIs mechanism settings [] nothing_used
used_first RoundRobin settings = tt
used_first Weighted settings = refl

pub judged_as : (arbitration : Arbitration) (past : History) (event : ArbitrationEvent) (o : Option Breach) (judge : JudgeView) → MatchOption o (IsSpecifiedEvent arbitration (past ++ []) event) (IsBreach arbitration (past ++ []) event)
    → IfNone o (JudgeStandsAt arbitration.mechanism arbitration.settings [] (event ∷ past) judge) → MatchOption o (IsKeptEvent arbitration past event judge) (IsBreach arbitration past event)
judged_as arbitration past event None judge allowed stands = record { stands = stands; allowed = subst (λ (h : History). IsSpecifiedEvent arbitration h event) (append-nil past) allowed }
judged_as arbitration past event (Some breach) judge broken stands = subst (λ (h : History). IsBreach arbitration h event breach) (append-nil past) broken

run_more : (arbitration : Arbitration) (past : History) (event : ArbitrationEvent) → IsObserved event → IsSpecifiedEvent arbitration past event → IsAllowed arbitration past → IsAllowed arbitration (event ∷ past)
run_more arbitration past (Picked seen pick) observed allowed run = (observed, allowed, run)
run_more arbitration past (Changed settings) observed allowed run = run

pub picks_more : (arbitration : Arbitration) (past : History) (event : ArbitrationEvent) (old new : PickAuditor) → IsObserved event → IsKeptEvent arbitration past event new.judge → new.judged ≡ new.judge.picks → PicksAt arbitration past old → PicksAt arbitration (event ∷ past) new
picks_more arbitration past event old new observed kept count at = record {
  stands = kept.stands;
  allowed = run_more arbitration past event observed kept.allowed at.allowed;
  judged = count ∙ kept.stands.picks_are;
}

-- ---- one line
-- one line more, of those before the others
pub reverse_more : (line : ℕ × List ℕ) (lines rest : List (ℕ × List ℕ)) → reverse lines ++ line ∷ rest ≡ reverse (line ∷ lines) ++ rest
reverse_more line lines rest = sym (append_assoc (reverse lines) (line ∷ []) rest) ∙ ap (λ (ls : List (ℕ × List ℕ)). ls ++ rest) (sym (reverse-cons line lines))

pub allowed_same : (view : View) (text : List ℕ) (later other : List (ℕ × List ℕ)) (head : Head) (past : History) → later ≡ other → IsAllowedBefore view text later head past → IsAllowedBefore view text other head past
allowed_same view text later other head past same before = subst (λ (ls : List (ℕ × List ℕ)). IsAllowedBefore view text ls head past) same before

-- after the head
pub allowed_head : (view : View) (text : List ℕ) (n : ℕ) (new : Option (List ℕ)) (head : Head) (auditor : PickAuditor) → TakesTold (λ line. head_of_line view line ≡ Ok head) 0 (Some text) n new → PicksAt (arbitration_of head) [] auditor
    → AllowedUpTo view text new n head auditor
allowed_head view text n None head auditor t at = t
allowed_head view text n (Some rest) head auditor (line, split, is, count) at = record {
  past = [];
  before = record { first = (n, line); lines = []; split = split; head_is = is; past_is = refl; allowed = tt };
  at = at;
}

-- after one line more
pub allowed_more : (view : View) (text : List ℕ) (m : ℕ) (old : Option (List ℕ)) (n : ℕ) (new : Option (List ℕ)) (head : Head) (auditor next : PickAuditor) (said : Heard) → AllowedUpTo view text old m head auditor
    → TakesTold (λ line. said_of_line view head line ≡ Ok said) m old n new
    → ((arbitration : Arbitration) (past : History) → PicksAt arbitration past auditor → PicksAt arbitration (joined (arbitration_heard said) past) next) → AllowedUpTo view text new n head next
allowed_more view text m None n new head auditor next said j t f = absurd j
allowed_more view text m (Some xs) n None head auditor next said j t f = absurd t
allowed_more view text m (Some xs) n (Some ys) head auditor next said j (line, split, is, count) f =
    let at : PicksAt (arbitration_of head) (joined (arbitration_heard said) j.past) next = f (arbitration_of head) j.past j.at in
    let b : IsAllowedBefore view text ((n, line) ∷ numbered n (lines_of ys)) head j.past = allowed_same view text (numbered m (lines_of xs)) ((n, line) ∷ numbered n (lines_of ys)) head j.past split j.before in record {
      past = joined (arbitration_heard said) j.past;
      before = record {
        first = b.first;
        lines = (n, line) ∷ b.lines;
        split = b.split ∙ ap (λ (ls : List (ℕ × List ℕ)). b.first ∷ ls) (reverse_more (n, line) b.lines (numbered n (lines_of ys)));
        head_is = b.head_is;
        past_is = ap (joined (arbitration_heard said)) b.past_is ∙ ap (λ r. joined (arbitration_told r) (history_of view head b.lines)) (sym is);
        allowed = at.allowed;
      };
      at = at;
    }

-- ---- the first breaches of arbitration
take_none : (n : ℕ) → take {A = PickFinding} n [] ≡ []
take_none zero = refl
take_none (suc n) = refl

takes_one : (n : ℕ) (found : List PickFinding) (finding : PickFinding) → length (take n found) < n → take n (found ++ finding ∷ []) ≡ take n found ++ finding ∷ []
takes_one zero found finding few = absurd (omega (arith, few))
takes_one (suc n) [] finding few = ap (λ (l : List PickFinding). finding ∷ l) (take_none n)
takes_one (suc n) (it ∷ found) finding few = ap (λ (l : List PickFinding). it ∷ l) (takes_one n found finding (omega (arith, few)))

takes_none : (n : ℕ) (found : List PickFinding) (finding : PickFinding) → n ≤ length (take n found) → take n (found ++ finding ∷ []) ≡ take n found
takes_none zero found finding many = refl
takes_none (suc n) [] finding many = absurd (omega (arith, many))
takes_none (suc n) (it ∷ found) finding many = ap (λ (l : List PickFinding). it ∷ l) (takes_none n found finding (omega (arith, many)))

pub none_told : (most : ℕ) (told : ToldPicks) → told.first.items ≡ [] → told.count ≡ 0 → AreToldPicks most [] told
none_told most told none zero_is = record { first_are = none ∙ sym (take_none most); count_is = zero_is }

pub one_more_kept : (most : ℕ) (found : List PickFinding) (finding : PickFinding) (old new : ToldPicks) → new.count ≡ old.count + 1 → length old.first.items < most → new.first.items ≡ old.first.items ++ finding ∷ [] → AreToldPicks most found old
    → AreToldPicks most (found ++ finding ∷ []) new
one_more_kept most found finding old new more few one told = record {
  first_are = one ∙ (ap (λ (l : List PickFinding). l ++ finding ∷ []) told.first_are ∙ sym (takes_one most found finding (rw (sym told.first_are) few)));
  count_is = omega (arith, more, told.count_is, length-append found (finding ∷ []));
}

pub one_more_counted : (most : ℕ) (found : List PickFinding) (finding : PickFinding) (old new : ToldPicks) → new.count ≡ old.count + 1 → most ≤ length old.first.items → new.first.items ≡ old.first.items → AreToldPicks most found old
    → AreToldPicks most (found ++ finding ∷ []) new
one_more_counted most found finding old new more many same told = record {
  first_are = same ∙ (told.first_are ∙ sym (takes_none most found finding (rw (sym told.first_are) many)));
  count_is = omega (arith, more, told.count_is, length-append found (finding ∷ []));
}

-- ---- one pick of a whole log
-- it is allowed
kept_in : (mechanism : Mechanism) (line : ℕ) (seen : List Seen) (pick : Pick) (said : PicksSaid) (old new : WholePicks) (span : Option Span) → said.span ≡ span → old.is_let_go ≡ false → PicksGoOn mechanism said old
    → ((span : Span) → JudgeStandsAt mechanism span.settings [] span.past old.judge → IsKeptEvent (record { mechanism = mechanism; settings = span.settings }) span.past (Picked seen pick) new.judge)
    → new.mechanism ≡ old.mechanism → new.is_let_go ≡ false → new.unlawful ≡ old.unlawful → new.judged ≡ old.judged + 1 → GoesOnWith mechanism line (Some (Picked seen pick)) said new
kept_in mechanism line seen pick said old new None is on at f same still told count =
    let gone : old.is_let_go ≡ true = subst (λ (o : Option Span). SpanIs mechanism o old.is_let_go old.judge) is at.span in absurd (false≢true (sym on ∙ gone))
kept_in mechanism line seen pick said old new (Some span) is on at f same still told count =
    let (here, stands) = subst (λ (o : Option Span). SpanIs mechanism o old.is_let_go old.judge) is at.span in
    let kept : IsKeptEvent (record { mechanism = mechanism; settings = span.settings }) span.past (Picked seen pick) new.judge = f span stands in
    let next : PicksSaid = record { span = Some (record span { past = Picked seen pick ∷ span.past }); found = said.found; judged = said.judged + 1 } in (
      next,
      subst (λ (o : Option Span). SaysOfPick mechanism line seen pick o said next) (sym is) (inl (kept.allowed, refl)),
      record {
        mechanism_is = same ∙ at.mechanism_is;
        span = (still, kept.stands);
        found_are = subst (AreToldPicks most_broken said.found) (sym told) at.found_are;
        judged_are = omega (arith, count, at.judged_are);
      },
    )

pub picks_kept : (mechanism : Mechanism) (line : ℕ) (event : ArbitrationEvent) (said : PicksSaid) (old new : WholePicks) → IsPick event → old.is_let_go ≡ false → PicksGoOn mechanism said old
    → ((span : Span) → JudgeStandsAt mechanism span.settings [] span.past old.judge → IsKeptEvent (record { mechanism = mechanism; settings = span.settings }) span.past event new.judge)
    → new.mechanism ≡ old.mechanism → new.is_let_go ≡ false → new.unlawful ≡ old.unlawful → new.judged ≡ old.judged + 1 → GoesOnWith mechanism line (Some event) said new
picks_kept mechanism line (Picked seen pick) said old new is on at f same still told count = kept_in mechanism line seen pick said old new said.span refl on at f same still told count
picks_kept mechanism line (Changed settings) said old new is on at f same still told count = absurd is

-- it breaks a rule
broken_in : (mechanism : Mechanism) (line : ℕ) (seen : List Seen) (pick : Pick) (breach : Breach) (said : PicksSaid) (old new : WholePicks) (span : Option Span) → said.span ≡ span → old.is_let_go ≡ false → PicksGoOn mechanism said old
    → ((span : Span) → JudgeStandsAt mechanism span.settings [] span.past old.judge → IsBreach (record { mechanism = mechanism; settings = span.settings }) span.past (Picked seen pick) breach)
    → ((found : List PickFinding) → AreToldPicks most_broken found old.unlawful → AreToldPicks most_broken (found ++ record { line = line; breach = breach } ∷ []) new.unlawful)
    → new.mechanism ≡ old.mechanism → new.is_let_go ≡ true → new.judged ≡ old.judged + 1 → GoesOnWith mechanism line (Some (Picked seen pick)) said new
broken_in mechanism line seen pick breach said old new None is on at f tells same gone count =
    let before : old.is_let_go ≡ true = subst (λ (o : Option Span). SpanIs mechanism o old.is_let_go old.judge) is at.span in absurd (false≢true (sym on ∙ before))
broken_in mechanism line seen pick breach said old new (Some span) is on at f tells same gone count =
    let (here, stands) = subst (λ (o : Option Span). SpanIs mechanism o old.is_let_go old.judge) is at.span in
    let next : PicksSaid = record { span = None; found = said.found ++ record { line = line; breach = breach } ∷ []; judged = said.judged + 1 } in (
      next,
      subst (λ (o : Option Span). SaysOfPick mechanism line seen pick o said next) (sym is) (inr (breach, f span stands, refl)),
      record {
        mechanism_is = same ∙ at.mechanism_is;
        span = gone;
        found_are = tells said.found at.found_are;
        judged_are = omega (arith, count, at.judged_are);
      },
    )

pub picks_broken : (mechanism : Mechanism) (line : ℕ) (event : ArbitrationEvent) (breach : Breach) (said : PicksSaid) (old new : WholePicks) → IsPick event → old.is_let_go ≡ false → PicksGoOn mechanism said old
    → ((span : Span) → JudgeStandsAt mechanism span.settings [] span.past old.judge → IsBreach (record { mechanism = mechanism; settings = span.settings }) span.past event breach)
    → ((found : List PickFinding) → AreToldPicks most_broken found old.unlawful → AreToldPicks most_broken (found ++ record { line = line; breach = breach } ∷ []) new.unlawful)
    → new.mechanism ≡ old.mechanism → new.is_let_go ≡ true → new.judged ≡ old.judged + 1 → GoesOnWith mechanism line (Some event) said new
picks_broken mechanism line (Picked seen pick) breach said old new is on at f tells same gone count = broken_in mechanism line seen pick breach said old new said.span refl on at f tells same gone count
picks_broken mechanism line (Changed settings) breach said old new is on at f tells same gone count = absurd is

-- what holds where a call was right
pub after_ok : {A B : Type 0} (r : Result A B) (P Q : Type 0) → OnOk r P → (P → Q) → OnOk r Q
after_ok (Ok x) P Q p f = f p
after_ok (Err e) P Q p f = tt

pub at_some : {A : Type 0} (P : Type 0) (Q : A → Type 0) (o : Option A) (x : A) → MatchOption o P Q → o ≡ Some x → Q x
at_some P Q o x m e = subst (λ r. MatchOption r P Q) e m

pub at_none : {A : Type 0} (P : Type 0) (Q : A → Type 0) (o : Option A) → MatchOption o P Q → o ≡ None → P
at_none P Q o m e = subst (λ r. MatchOption r P Q) e m

-- ---- the lines of a whole log
pub said_same : (view : View) (text : List ℕ) (later other : List (ℕ × List ℕ)) (head : Head) (said : PicksSaid) → later ≡ other → IsSaidBefore view text later head said → IsSaidBefore view text other head said
said_same view text later other head said same before = subst (λ (ls : List (ℕ × List ℕ)). IsSaidBefore view text ls head said) same before

pub said_head : (view : View) (text : List ℕ) (n : ℕ) (new : Option (List ℕ)) (head : Head) (auditor : WholePicks) → TakesTold (λ line. head_of_line view line ≡ Ok head) 0 (Some text) n new
    → PicksGoOn (arbitration_of head).mechanism (nothing_said (arbitration_of head).settings) auditor → SaidUpTo view text new n head auditor
said_head view text n None head auditor t at = t
said_head view text n (Some rest) head auditor (line, split, is, count) at = record {
  said = nothing_said (arbitration_of head).settings;
  before = record { first = (n, line); lines = []; split = split; head_is = is; says = refl };
  at = at;
}

pub said_more : (view : View) (text : List ℕ) (m : ℕ) (old : Option (List ℕ)) (n : ℕ) (new : Option (List ℕ)) (head : Head) (auditor next : WholePicks) (said : Heard) → SaidUpTo view text old m head auditor
    → TakesTold (λ line. said_of_line view head line ≡ Ok said) m old n new
    → ((told : PicksSaid) → PicksGoOn (arbitration_of head).mechanism told auditor → GoesOnWith (arbitration_of head).mechanism n (arbitration_heard said) told next) → SaidUpTo view text new n head next
said_more view text m None n new head auditor next said j t f = absurd j
said_more view text m (Some xs) n None head auditor next said j t f = absurd t
said_more view text m (Some xs) n (Some ys) head auditor next said j (line, split, is, count) f =
    let (after, says, at) = f j.said j.at in
    let b : IsSaidBefore view text ((n, line) ∷ numbered n (lines_of ys)) head j.said = said_same view text (numbered m (lines_of xs)) ((n, line) ∷ numbered n (lines_of ys)) head j.said split j.before in record {
      said = after;
      before = record {
        first = b.first;
        lines = (n, line) ∷ b.lines;
        split = b.split ∙ ap (λ (ls : List (ℕ × List ℕ)). b.first ∷ ls) (reverse_more (n, line) b.lines (numbered n (lines_of ys)));
        head_is = b.head_is;
        says = (j.said, subst (λ r. SaysOf (arbitration_of head).mechanism n (arbitration_told r) j.said after) (sym is) says, b.says);
      };
      at = at;
    }
