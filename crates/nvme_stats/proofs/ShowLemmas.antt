-- A watcher goes through the lines of a text.
use Rattle.std.proofs.Common.{◌≡◌, ℕ, Bool, true, false, List, [], ◌∷◌, ◌++◌, reverse, Option, Some, None, Result, Ok, Err, OnOk, inl, inr, refl, sym, ap, subst, ◌∙◌, append_assoc, append-nil}
use Rattle.std.specs.Prelude.{IfSome}
use mathlib.Core.List.{reverse-cons, reverse-reverse}
use Rattle.nvme_arbiter.specs.History.{ArbitrationEvent, History}
use Rattle.nvme_lines.specs.Lines.{lines_of, numbered, told_lines, TakesTold, HasNoTold}
use Rattle.nvme_trace.specs.Format.{head_by, event_by}
use Rattle.nvme_trace.specs.Faults.{IsHeadFault, IsEventFaultBy}
use Rattle.nvme_trace.specs.Checks.{TellsBy}
use Rattle.nvme_trace.specs.declared.fault.TraceError.{TraceError}
use Rattle.nvme_trace.specs.declared.fault.TraceError.TheVariants as error
use Rattle.nvme_trace.specs.declared.basis.Basis.TheVariants.{Specification}
use Rattle.nvme_trace.specs.declared.records.Head.{Head}
use Rattle.nvme_stats.specs.Chosen.{chosen, chooses, number_after}
use Rattle.nvme_stats.specs.declared.selection.Selection.{Selection}
use Rattle.nvme_arbiter.specs.declared.settings.Mechanism.{Mechanism}
use Rattle.nvme_trace.specs.Shown.{IsShownBy, IsReadUpToBy, IsReadFaultBy}

-- this many lines were read, and this holds of what they say
pub record IsShownUpTo (text rest : List ℕ) (number : ℕ) (head : Head) (P : History → Type 0) : Type 0 where
  pub past : History
  pub before : IsReadUpToBy Specification text rest number head past
  pub holds : P past

abbrev pub ShownUpTo : List ℕ → Option (List ℕ) → ℕ → Head → (History → Type 0) → Type 0
ShownUpTo text None number head P = ⊥
ShownUpTo text (Some rest) number head P = IsShownUpTo text rest number head P

-- one line more, of those before the others
reverse_more : (line : ℕ × List ℕ) (lines rest : List (ℕ × List ℕ)) → reverse lines ++ line ∷ rest ≡ reverse (line ∷ lines) ++ rest
reverse_more line lines rest = sym (append_assoc (reverse lines) (line ∷ []) rest) ∙ ap (λ (ls : List (ℕ × List ℕ)). ls ++ rest) (sym (reverse-cons line lines))

-- after the head
pub shown_head : (text : List ℕ) (n : ℕ) (new : Option (List ℕ)) (head : Head) (P : History → Type 0) → TakesTold (λ line. head_by line ≡ Ok head) 0 (Some text) n new → P [] → ShownUpTo text new n head P
shown_head text n None head P t p = t
shown_head text n (Some rest) head P (line, split, is, all) p = record {
  past = [];
  before = record { lines = (n, line) ∷ []; split = split; tells = ((n, line), refl, is) };
  holds = p;
}

-- after one event more
pub shown_more : (text : List ℕ) (m : ℕ) (old : Option (List ℕ)) (n : ℕ) (new : Option (List ℕ)) (head : Head) (P Q : History → Type 0) (e : ArbitrationEvent)
    → ShownUpTo text old m head P → TakesTold (λ line. event_by Specification line ≡ Ok e) m old n new → ((past : History) → P past → Q (e ∷ past))
    → ShownUpTo text new n head Q
shown_more text m None n new head P Q e j t f = absurd j
shown_more text m (Some xs) n None head P Q e j t f = absurd t
shown_more text m (Some xs) n (Some ys) head P Q e j (line, split, is, all) f = record {
  past = e ∷ j.past;
  before = record {
    lines = (n, line) ∷ j.before.lines;
    split = j.before.split ∙ ap (λ (ls : List (ℕ × List ℕ)). reverse j.before.lines ++ ls) split ∙ reverse_more (n, line) j.before.lines (numbered n (lines_of ys));
    tells = ((n, line), j.before.lines, refl, is, j.before.tells);
  };
  holds = f j.past j.holds;
}

-- after the last line
pub shown_all : (text : List ℕ) (old : Option (List ℕ)) (number : ℕ) (head : Head) (P : Head → History → Type 0) → ShownUpTo text old number head (P head) → HasNoTold number old → IsShownBy Specification text P
shown_all text None number head P j n = absurd j
shown_all text (Some xs) number head P j n =
    let lines : List (ℕ × List ℕ) = j.before.lines in
    let all : told_lines text ≡ reverse lines = j.before.split ∙ ap (λ (ls : List (ℕ × List ℕ)). reverse lines ++ ls) n ∙ append-nil (reverse lines) in
    let back : lines ≡ reverse (told_lines text) = sym (ap reverse all ∙ reverse-reverse lines) in record {
      head = head;
      past = j.past;
      tells = subst (TellsBy Specification head j.past) back j.before.tells;
      holds = j.holds;
    }

-- what follows of what holds
pub shown_weaker : (text : List ℕ) (rest : Option (List ℕ)) (number : ℕ) (head : Head) (P Q : History → Type 0) → ShownUpTo text rest number head P
    → ((past : History) → P past → Q past) → ShownUpTo text rest number head Q
shown_weaker text None number head P Q j f = j
shown_weaker text (Some xs) number head P Q j f = record { past = j.past; before = j.before; holds = f j.past j.holds }

-- at a line that is faulty
pub shown_fault : (text : List ℕ) (old : Option (List ℕ)) (number : ℕ) (head : Head) (P : History → Type 0) (e : TraceError) → ShownUpTo text old number head P → IsEventFaultBy Specification e number old → IsReadFaultBy Specification text e
shown_fault text None number head P e j f = absurd j
shown_fault text (Some xs) number head P e j f = inr (record { head = head; past = j.past; number = number; rest = xs; before = j.before; fault = f })

-- memory was refused, or a read failed
pub no_memory : (text : List ℕ) (e : TraceError) → e ≡ error.NoMemory → IsReadFaultBy Specification text e
no_memory text e is = subst (λ (x : TraceError). IsReadFaultBy Specification text x) (sym is) (inl tt)

-- ---- the chosen events

-- the pick after these events has this number, and this holds of those that are chosen
pub record IsFollowed (m : Mechanism) (s : Selection) (next : ℕ) (P : History → Type 0) (past : History) : Type 0 where
  pub next_is : next ≡ number_after past
  pub holds : P (chosen m s past)

-- what follows where something is done
pub after_ok : {T E : Type 0} (result : Result T E) (P Q : Type 0) → OnOk result P → (P → Q) → OnOk result Q
after_ok (Ok t) P Q h f = f h
after_ok (Err e) P Q h f = tt

pub first_number : 1 ≡ number_after []
first_number = refl

-- an event that is chosen, and one that isn't
pub more_chosen : (m : Mechanism) (s : Selection) (past : History) (e : ArbitrationEvent) (b : Bool) (P : History → Type 0) → b ≡ chooses m s past e → b ≡ true
    → P (e ∷ chosen m s past) → P (chosen m s (e ∷ past))
more_chosen m s past e b P is on p = rw (sym is ∙ on) p

pub none_chosen : (m : Mechanism) (s : Selection) (past : History) (e : ArbitrationEvent) (b : Bool) (P : History → Type 0) → b ≡ chooses m s past e → b ≡ false
    → P (chosen m s past) → P (chosen m s (e ∷ past))
none_chosen m s past e b P is off p = rw (sym is ∙ off) p

-- ---- the whole text

pub head_fault : (known : Option (List ℕ)) (e : TraceError) → IsHeadFault e 0 known → IfSome known (λ text. IsReadFaultBy Specification text e)
head_fault None e f = tt
head_fault (Some text) e f = inl f

pub later : (P : List ℕ → Type 0) (known : Option (List ℕ)) (n : ℕ) (new : Option (List ℕ)) (head : Head) → TakesTold (λ line. head_by line ≡ Ok head) 0 known n new
    → ((text : List ℕ) → TakesTold (λ line. head_by line ≡ Ok head) 0 (Some text) n new → P text) → IfSome known P
later P None n new head t h = tt
later P (Some text) n new head t h = h text t

-- what is shown of a text whose head was read, and its fault
pub shown_at : (P : Head → History → Type 0) (Start : Head → Type 0) (known rest : Option (List ℕ)) (n : ℕ) (new : Option (List ℕ)) (head : Head) → rest ≡ known
    → TakesTold (λ line. head_by line ≡ Ok head) 0 rest n new → Start head
    → ((text : List ℕ) (h : Head) → TakesTold (λ line. head_by line ≡ Ok h) 0 (Some text) n new → Start h → IsShownBy Specification text P)
    → IfSome known (λ text. IsShownBy Specification text P)
shown_at P Start known rest n new head is t s f =
    later (λ text. IsShownBy Specification text P) known n new head (subst (λ (k : Option (List ℕ)). TakesTold (λ line. head_by line ≡ Ok head) 0 k n new) is t) (λ text took. f text head took s)

pub fault_at : (e : TraceError) (Start : Head → Type 0) (known rest : Option (List ℕ)) (n : ℕ) (new : Option (List ℕ)) (head : Head) → rest ≡ known
    → TakesTold (λ line. head_by line ≡ Ok head) 0 rest n new → Start head
    → ((text : List ℕ) (h : Head) → TakesTold (λ line. head_by line ≡ Ok h) 0 (Some text) n new → Start h → IsReadFaultBy Specification text e)
    → IfSome known (λ text. IsReadFaultBy Specification text e)
fault_at e Start known rest n new head is t s f =
    later (λ text. IsReadFaultBy Specification text e) known n new head (subst (λ (k : Option (List ℕ)). TakesTold (λ line. head_by line ≡ Ok head) 0 k n new) is t) (λ text took. f text head took s)

pub head_fault_at : (e : TraceError) (known rest : Option (List ℕ)) → rest ≡ known → IsHeadFault e 0 rest → IfSome known (λ text. IsReadFaultBy Specification text e)
head_fault_at e known rest is f = head_fault known e (subst (λ (k : Option (List ℕ)). IsHeadFault e 0 k) is f)
