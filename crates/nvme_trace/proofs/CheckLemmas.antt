-- A judge goes through the lines of a text.
use Rattle.std.proofs.Common.{◌≡◌, ℕ, ◌+◌, List, [], ◌∷◌, ◌++◌, reverse, Option, Some, None, Ok, inl, inr, refl, sym, ap, subst, ◌∙◌, append_assoc, append-nil}
use Rattle.std.specs.Prelude.{IfSome, IfOk, IfErr, Result, Err}
use mathlib.Core.List.{reverse-cons, reverse-reverse}
use Rattle.nvme_arbiter.specs.History.{ArbitrationEvent, Picked, Changed, History, settings_after}
use Rattle.nvme_arbiter.specs.declared.kept.Kept.{Kept}
use Rattle.nvme_arbiter.proofs.SpecifiedLaws.{lawful_specified}
use Rattle.nvme_judge.specs.Standing.{IsQuiet}
use Rattle.nvme_judge.specs.Starts.{CanBegin, IsPrior}
use Rattle.nvme_judge.proofs.StartLemmas.{priors}
use Rattle.nvme_trace.specs.Readings.{seen_by}
use Rattle.nvme_lines.specs.Lines.{lines_of, numbered, told_lines, TakesTold, HasNoTold}
use Rattle.nvme_trace.specs.Format.{start_of_line, head_of_kept, event_by, room_of_line}
use Rattle.nvme_trace.specs.Judged.{IsObserved, picks_of}
use Rattle.nvme_trace.specs.Bases.{IsRunBy, IsAllowedBy, IsReasonBy, StandsBy, picks_by}
use Rattle.nvme_trace.specs.declared.basis.Basis.{Basis}
use Rattle.nvme_trace.specs.declared.basis.Basis.TheVariants.{Profile, Specification}
use Rattle.nvme_trace.specs.Faults.{IsHeadFault, IsEventFaultBy}
use Rattle.nvme_trace.specs.Checks.{TellsBy, IsLawfulBy, IsRefusedBy, IsFaultBy, IsAnswer, JudgedUpTo, start_of_told}
use Rattle.nvme_trace.specs.declared.fault.TraceError.{TraceError}
use Rattle.nvme_trace.specs.declared.records.Head.{Head}
use Rattle.nvme_trace.specs.declared.judges.Reason.{Reason}
use Rattle.nvme_trace.specs.declared.judges.BasisJudge.{BasisJudge}
use Rattle.nvme_trace.specs.declared.verdicts.Checked.{Checked}

-- one line more, of those before the others
reverse_more : (line : ℕ × List ℕ) (lines rest : List (ℕ × List ℕ)) → reverse lines ++ line ∷ rest ≡ reverse (line ∷ lines) ++ rest
reverse_more line lines rest = sym (append_assoc (reverse lines) (line ∷ []) rest) ∙ ap (λ (ls : List (ℕ × List ℕ)). ls ++ rest) (sym (reverse-cons line lines))

run_more : (basis : Basis) (head : Head) (prior past : History) (e : ArbitrationEvent) (line : ℕ × List ℕ) (lines : List (ℕ × List ℕ)) → IsObserved e → IsAllowedBy basis head (past ++ prior) (room_of_line line.1) e → IsRunBy basis head prior past lines
    → IsRunBy basis head prior (e ∷ past) (line ∷ lines)
run_more Profile head prior past (Picked seen pick) line lines o l h = (o, l, h)
run_more Profile head prior past (Changed settings) line lines o l h = h
run_more Specification head prior past (Picked seen pick) line lines o l h = (o, l, h)
run_more Specification head prior past (Changed settings) line lines o l h = h

run_first : (basis : Basis) (start : Kept) (prior : History) (lines : List (ℕ × List ℕ)) → IsPrior start prior → IsRunBy basis (head_of_kept start) prior [] lines
run_first Profile start prior lines is = tt
run_first Specification start prior lines is = lawful_specified start.mechanism start.settings prior is.lawful

-- the settings after a history are those of its start
pub settings_stay : (start : Kept) (prior : History) → IsPrior start prior → settings_after start.settings prior ≡ start.settings
settings_stay start prior is = sym is.stands.settings_are

-- the text of the first of some lines
abbrev first_text : List ℕ → List (ℕ × List ℕ) → List ℕ
first_text other [] = other
first_text other (line ∷ lines) = line.1

pub same_text : (n : ℕ) (a b : List ℕ) (xs ys : List (ℕ × List ℕ)) → (n, a) ∷ xs ≡ (n, b) ∷ ys → a ≡ b
same_text n a b xs ys e = ap (first_text a) e

-- after the head
pub judged_head : (basis : Basis) (text : List ℕ) (n : ℕ) (new : Option (List ℕ)) (start : Kept) (judge : BasisJudge) → CanBegin start → TakesTold (λ line. start_of_line line ≡ Ok start) 0 (Some text) n new
    → ((prior : History) → IsPrior start prior → IsQuiet prior → StandsBy basis (head_of_kept start) prior [] judge) → picks_by judge ≡ 0 → JudgedUpTo basis text new n (head_of_kept start) judge
judged_head basis text n None start judge can t s p = t
judged_head basis text n (Some rest) start judge can (line, split, is, all) s p =
    let (prior, before, quiet) = priors start can in
    record {
      past = [];
      prior = prior;
      before = record {
        lines = (n, line) ∷ [];
        split = split;
        tells = ((n, line), refl, ap (seen_by head_of_kept) is);
        begins = (start, ap start_of_told split ∙ is, refl, before);
        lawful = run_first basis start prior ((n, line) ∷ []) before;
      };
      quiet = quiet;
      stands = s prior before quiet;
      picks = p;
    }

-- after one event more that is lawful
pub judged_more : (basis : Basis) (text : List ℕ) (m : ℕ) (old : Option (List ℕ)) (n : ℕ) (new : Option (List ℕ)) (quoted : List ℕ) (head : Head) (judge next : BasisJudge) (e : ArbitrationEvent)
    → JudgedUpTo basis text old m head judge → TakesTold (λ line. event_by basis line ≡ Ok e) m old n new → TakesTold (λ line. line ≡ quoted) m old n new → IsObserved e
    → ((prior past : History) → StandsBy basis head prior past judge → IsAllowedBy basis head (past ++ prior) (room_of_line quoted) e)
    → ((prior past : History) → StandsBy basis head prior past judge → StandsBy basis head prior (e ∷ past) next)
    → picks_by next ≡ picks_by judge + picks_of e → JudgedUpTo basis text new n head next
judged_more basis text m None n new quoted head judge next e j t q o l s p = absurd j
judged_more basis text m (Some xs) n None quoted head judge next e j t q o l s p = absurd t
judged_more basis text m (Some xs) n (Some ys) quoted head judge next e j (line, split, is, all) (one, split', same, also) o l s p = record {
  past = e ∷ j.past;
  prior = j.prior;
  before = record {
    lines = (n, line) ∷ j.before.lines;
    split = j.before.split ∙ ap (λ (ls : List (ℕ × List ℕ)). reverse j.before.lines ++ ls) split ∙ reverse_more (n, line) j.before.lines (numbered n (lines_of ys));
    tells = ((n, line), j.before.lines, refl, is, j.before.tells);
    begins = j.before.begins;
    lawful = let there : line ≡ quoted = same_text n line one _ _ (sym split ∙ split') ∙ same in
        run_more basis head j.prior j.past e (n, line) j.before.lines o (subst (λ (x : List ℕ). IsAllowedBy basis head (j.past ++ j.prior) (room_of_line x) e) (sym there) (l j.prior j.past j.stands)) j.before.lawful;
  };
  quiet = j.quiet;
  stands = s j.prior j.past j.stands;
  picks = p ∙ ap (λ (n : ℕ). n + picks_of e) j.picks;
}

-- after the last line
pub judged_all : (basis : Basis) (text : List ℕ) (old : Option (List ℕ)) (number : ℕ) (head : Head) (judge : BasisJudge) (picks : ℕ) → JudgedUpTo basis text old number head judge → HasNoTold number old → picks ≡ picks_by judge → IsLawfulBy basis text picks
judged_all basis text None number head judge picks j n p = absurd j
judged_all basis text (Some xs) number head judge picks j n p =
    let lines : List (ℕ × List ℕ) = j.before.lines in
    let all : told_lines text ≡ reverse lines = j.before.split ∙ ap (λ (ls : List (ℕ × List ℕ)). reverse lines ++ ls) n ∙ append-nil (reverse lines) in
    let back : lines ≡ reverse (told_lines text) = sym (ap reverse all ∙ reverse-reverse lines) in record {
      head = head;
      past = j.past;
      prior = j.prior;
      tells = subst (TellsBy basis head j.past) back j.before.tells;
      begins = j.before.begins;
      lawful = subst (IsRunBy basis head j.prior j.past) back j.before.lawful;
      picks_are = p ∙ j.picks;
    }

-- at a pick that is not allowed
pub judged_reason : (basis : Basis) (text : List ℕ) (m : ℕ) (old : Option (List ℕ)) (n : ℕ) (new : Option (List ℕ)) (line : ℕ) (quoted : List ℕ) (head : Head) (judge : BasisJudge) (e : ArbitrationEvent) (reason : Reason)
    → JudgedUpTo basis text old m head judge → TakesTold (λ line. event_by basis line ≡ Ok e) m old n new → TakesTold (λ line. line ≡ quoted) m old n new
    → ((prior past : History) → StandsBy basis head prior past judge → IsReasonBy basis head (past ++ prior) (room_of_line quoted) e reason)
    → line ≡ n → IsRefusedBy basis text line quoted reason
judged_reason basis text m None n new line quoted head judge e reason j t q f is = absurd j
judged_reason basis text m (Some xs) n None line quoted head judge e reason j t q f is = absurd t
judged_reason basis text m (Some xs) n (Some ys) line quoted head judge e reason j (at, split, says, all) (one, split', same, also) f is = record {
  head = head;
  past = j.past;
  prior = j.prior;
  event = e;
  later = numbered n (lines_of ys);
  earlier = j.before.lines;
  split = subst (λ (k : ℕ). told_lines text ≡ reverse j.before.lines ++ (k, quoted) ∷ numbered n (lines_of ys)) (sym is)
      (j.before.split ∙ ap (λ (ls : List (ℕ × List ℕ)). reverse j.before.lines ++ ls) (split' ∙ ap (λ (l : List ℕ). (n, l) ∷ numbered n (lines_of ys)) same));
  tells = j.before.tells;
  begins = j.before.begins;
  quiet = j.quiet;
  lawful = j.before.lawful;
  says = let there : at ≡ quoted = same_text n at one _ _ (sym split ∙ split') ∙ same in subst (λ (l : List ℕ). event_by basis l ≡ Ok e) there says;
  reason_is = f j.prior j.past j.stands;
}

-- at a line that is faulty
pub judged_fault : (basis : Basis) (text : List ℕ) (old : Option (List ℕ)) (number : ℕ) (head : Head) (judge : BasisJudge) (error : TraceError) → JudgedUpTo basis text old number head judge → IsEventFaultBy basis error number old → IsFaultBy basis text error
judged_fault basis text None number head judge error j f = absurd j
judged_fault basis text (Some xs) number head judge error j f = inr (record { head = head; past = j.past; prior = j.prior; number = number; rest = xs; before = j.before; fault = f })

-- ---- the whole text

pub head_fault : (basis : Basis) (known : Option (List ℕ)) (error : TraceError) → IsHeadFault error 0 known → IfSome known (λ text. IsFaultBy basis text error)
head_fault basis None error f = tt
head_fault basis (Some text) error f = inl f

pub later : (P : List ℕ → Type 0) (known : Option (List ℕ)) (n : ℕ) (new : Option (List ℕ)) (start : Kept) → TakesTold (λ line. start_of_line line ≡ Ok start) 0 known n new
    → ((text : List ℕ) → TakesTold (λ line. start_of_line line ≡ Ok start) 0 (Some text) n new → P text) → IfSome known P
later P None n new start t h = tt
later P (Some text) n new start t h = h text t

pub all_answers : (basis : Basis) (known : Option (List ℕ)) (n : ℕ) (new : Option (List ℕ)) (start : Kept) (r : Result Checked TraceError) → TakesTold (λ line. start_of_line line ≡ Ok start) 0 known n new
    → IfOk r (λ checked. (text : List ℕ) → TakesTold (λ line. start_of_line line ≡ Ok start) 0 (Some text) n new → IsAnswer basis text checked)
    → IfOk r (λ checked. IfSome known (λ text. IsAnswer basis text checked))
all_answers basis known n new start (Ok x) t h = later (λ text. IsAnswer basis text x) known n new start t h
all_answers basis known n new start (Err e) t h = tt

pub all_faults : (basis : Basis) (known : Option (List ℕ)) (n : ℕ) (new : Option (List ℕ)) (start : Kept) (r : Result Checked TraceError) → TakesTold (λ line. start_of_line line ≡ Ok start) 0 known n new
    → IfErr r (λ error. (text : List ℕ) → TakesTold (λ line. start_of_line line ≡ Ok start) 0 (Some text) n new → IsFaultBy basis text error)
    → IfErr r (λ error. IfSome known (λ text. IsFaultBy basis text error))
all_faults basis known n new start (Ok x) t h = tt
all_faults basis known n new start (Err e) t h = later (λ text. IsFaultBy basis text e) known n new start t h
