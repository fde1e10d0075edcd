-- The phases of an I/O completion queue in an account, from one command that turns it to the next.
use Rattle.std.proofs.Common.{◌≡◌, ℕ, ◌+◌, ◌<◌, ◌==◌, Bool, true, false, if◌then◌else◌, List, [], ◌∷◌, ◌++◌, length, Some, None, refl, sym, ap, ◌∙◌, subst, arith, ◌⊎◌, inl, inr, append_assoc, eq-eqb}
use Rattle.std.specs.Prelude.{slice_get}
use Rattle.std.proofs.lemmas.Bool.{ne_eqb}
use Rattle.std.proofs.lemmas.Option.{none-some}
use mathlib.Core.List.{IsPrefix}
use Rattle.nvme_entry.specs.AdminCommand.{admin_command_of}
use Rattle.nvme_entry.specs.declared.submission.Sqe.{Sqe}
use Rattle.nvme_entry.specs.declared.admin.AdminCommand.TheVariants.{DeleteCq, CreateCq}
use Rattle.nvme_log.specs.declared.event.Event.{Event}
use Rattle.nvme_log.specs.declared.event.Event.TheVariants.{Fetch, Pick, SetArbitration, OpenSq, OpenCq, Closing, Abort, Post, ClosedSq, ClosedCq}
use Rattle.nvme_log.specs.Rules.{FrontRules, Past, Each}
use Rattle.nvme_log.specs.Queues.{open_cq}
use Rattle.nvme_log.specs.Places.{fetched, picked}
use Rattle.nvme_log.specs.Effects.{made_last, effects_since, EffectsAtOnce}
use Rattle.nvme_log.proofs.AbortAnswers.{entry-stays}
use Rattle.nvme_log.proofs.LogLengths.{left-none}
use Rattle.nvme_log.proofs.Members.{IsIn}
use Rattle.nvme_log.proofs.Promise.{first-is_made}
use Rattle.nvme_ctrl_log.specs.Doorbells.{cq_slots}
use Rattle.nvme_ctrl_log.proofs.TakenCommands.{IsSound}
use Rattle.nvme_audit.specs.Queues.{turns_cq}
use Rattle.nvme_own_log.specs.Shown.{cqid_of_region}
use Rattle.nvme_own_log.proofs.AdminTurns.{few_picked}
use Rattle.nvme_own_log.proofs.Agreeing.{get_push}
use Rattle.nvme_own_log.proofs.CqRegions.{cq_fresh, cq_owned}
use Rattle.nvme_own_log.proofs.Phases.{IsPending, IsAccepted}

-- ---- what is still to be made
-- something holds of what is left of a list
abbrev pub OfRest : (List Event → Type 0) → (xs made : List Event) → Type 0
OfRest N xs made = (rest : List Event) → xs ++ rest ≡ made → N rest

pub rest_none : (N : List Event → Type 0) → N [] → (xs made : List Event) → xs ≡ made → OfRest N xs made
rest_none N none xs made whole rest is = subst N (sym (left-none xs rest made whole is)) none

pub rest_more : (N : List Event → Type 0) (e : Event) → ((rest : List Event) → N (e ∷ rest) → N rest) → (xs made : List Event) → OfRest N xs made → OfRest N (xs ++ e ∷ []) made
rest_more N e fewer xs made quiet rest is = fewer rest (quiet (e ∷ rest) (sym (append_assoc xs (e ∷ []) rest) ∙ is))

pub rest_first : (N : List Event → Type 0) (e : Event) (xs made : List Event) → OfRest N xs made → IsPrefix (xs ++ e ∷ []) made → (rest : List Event) × N (e ∷ rest)
rest_first N e xs made quiet p = (p.0, quiet (e ∷ p.0) (sym (append_assoc xs (e ∷ []) p.0) ∙ p.1))

-- none of these opens or closes the completion queue
abbrev pub NoTurn : ℕ → List Event → Type 0
NoTurn q es = ((c : ℕ) → IsIn (OpenCq q c) es → ⊥) × ((c : ℕ) → IsIn (ClosedCq q c) es → ⊥)

pub no_turn : (q : ℕ) → NoTurn q []
no_turn q = ((λ c h. h), (λ c h. h))

fewer_turns : (q : ℕ) (e : Event) (rest : List Event) → NoTurn q (e ∷ rest) → NoTurn q rest
fewer_turns q e rest n = ((λ c h. n.0 c (inr h)), (λ c h. n.1 c (inr h)))

-- what the host was told: nothing, or that the queue is there, on a region
pub data CqStage : Type 0 where
  unknown : CqStage
  known_on : (c : ℕ) → CqStage

module _ (rules : FrontRules) where
  -- ---- admin commands
  -- a Create of the queue, on a region of so many slots
  pub record IsCqCreate (entry : Sqe) (q slots : ℕ) : Type 0 where
    pub qsize : ℕ
    pub prp1 : ℕ
    pub pc : Bool
    pub command_is : admin_command_of entry ≡ CreateCq q qsize prp1 pc
    pub slots_are : slots ≡ qsize + 1

  -- no pending command that was accepted turns the queue
  abbrev pub NoneTurns : Past → ℕ → Type 0
  NoneTurns past q = (k : ℕ) (entry : Sqe) → IsPending rules past k entry → IsAccepted rules past k entry → turns_cq (admin_command_of entry) q ≡ true → ⊥

  abbrev pub Quiet : Past → ℕ → Type 0
  Quiet past q = OfRest (NoTurn q) (effects_since past) (made_last rules past)

  -- ---- phases
  pub data CqPhase (past : Past) (q : ℕ) : CqStage → Type 0 where
    -- no queue is there
    absent : open_cq past q ≡ None → NoneTurns past q → Quiet past q → CqPhase past q unknown
    -- its Create was picked, and the queue is to be opened at once
    coming : (k : ℕ) (entry : Sqe) (c : ℕ) → IsCqCreate entry q (cq_slots rules c) → IsPending rules past k entry → IsAccepted rules past k entry
        → open_cq past q ≡ None → effects_since past ≡ [] → made_last rules past ≡ OpenCq q c ∷ [] → CqPhase past q unknown
    -- it is open, and the host isn't told
    hidden : (k : ℕ) (entry : Sqe) (c : ℕ) → IsCqCreate entry q (cq_slots rules c) → IsPending rules past k entry → IsAccepted rules past k entry
        → open_cq past q ≡ Some c → Quiet past q → CqPhase past q unknown
    -- the host is told
    present : (c : ℕ) → open_cq past q ≡ Some c → NoneTurns past q → Quiet past q → CqPhase past q (known_on c)
    -- its Delete was picked, and the queue is to be closed at once
    leaving : (k : ℕ) (entry : Sqe) (c : ℕ) → admin_command_of entry ≡ DeleteCq q → IsPending rules past k entry → IsAccepted rules past k entry
        → open_cq past q ≡ Some c → effects_since past ≡ [] → made_last rules past ≡ ClosedCq q c ∷ [] → CqPhase past q (known_on c)
    -- it is closed, and the host isn't told
    gone : (k : ℕ) (entry : Sqe) (c : ℕ) → admin_command_of entry ≡ DeleteCq q → IsPending rules past k entry → IsAccepted rules past k entry
        → open_cq past q ≡ None → cqid_of_region past c ≡ Some q → Quiet past q → CqPhase past q (known_on c)

  -- ---- events that leave the queue
  pub record Leaves (e : Event) (past : Past) (q : ℕ) : Type 0 where
    pub same : open_cq (e ∷ past) q ≡ open_cq past q
    pub opens_not : (c : ℕ) → e ≡ OpenCq q c → ⊥
    pub closes_not : (c : ℕ) → e ≡ ClosedCq q c → ⊥
    pub pending : (k : ℕ) (x : Sqe) → IsPending rules past k x → IsPending rules (e ∷ past) k x
    pub accepted : (k : ℕ) (x : Sqe) → IsAccepted rules past k x → IsAccepted rules (e ∷ past) k x
    pub none : NoneTurns past q → NoneTurns (e ∷ past) q
    pub quiet : Quiet past q → Quiet (e ∷ past) q
    pub owned : (c : ℕ) → cqid_of_region past c ≡ Some q → cqid_of_region (e ∷ past) c ≡ Some q

  pub leave : (e : Event) (past : Past) (q : ℕ) (st : CqStage) → EffectsAtOnce rules past e → Leaves e past q → CqPhase past q st → CqPhase (e ∷ past) q st
  leave e past q st h l (absent o n y) = absent (l.same ∙ o) (l.none n) (l.quiet y)
  leave e past q st h l (coming k entry c is p a o none made_is) = absurd (l.opens_not c (first-is_made rules past e (OpenCq q c) [] h none made_is))
  leave e past q st h l (hidden k entry c is p a o y) = hidden k entry c is (l.pending k entry p) (l.accepted k entry a) (l.same ∙ o) (l.quiet y)
  leave e past q st h l (present c o n y) = present c (l.same ∙ o) (l.none n) (l.quiet y)
  leave e past q st h l (leaving k entry c is p a o none made_is) = absurd (l.closes_not c (first-is_made rules past e (ClosedCq q c) [] h none made_is))
  leave e past q st h l (gone k entry c is p a o own y) = gone k entry c is (l.pending k entry p) (l.accepted k entry a) (l.same ∙ o) (l.owned c own) (l.quiet y)

  module _ (past : Past) (effects : Each (EffectsAtOnce rules) past) (q : ℕ) where
    abbrev xs : List Event
    xs = effects_since past

    abbrev all : List Event
    all = made_last rules past

    -- effects that turn no completion queue
    abbrev pub IsPlain : Event → Type 0
    IsPlain (SetArbitration settings) = Unit {0}
    IsPlain (OpenSq qid region cqid class) = Unit {0}
    IsPlain (Closing qid region) = Unit {0}
    IsPlain (Abort region index) = Unit {0}
    IsPlain e = ⊥

    pub plain : (e : Event) → IsPlain e → Leaves e past q
    plain (Fetch r i entry) b = absurd b
    plain (Pick seen pick) b = absurd b
    plain (OpenCq qid region) b = absurd b
    plain (Post x r i cqe) b = absurd b
    plain (ClosedSq qid region) b = absurd b
    plain (ClosedCq qid region) b = absurd b
    plain e b = record {
      same = refl;
      opens_not = λ c is. cc is;
      closes_not = λ c is. cc is;
      pending = λ k x p. p;
      accepted = λ k x a. a;
      none = λ n. n;
      quiet = rest_more (NoTurn q) e (fewer_turns q e) xs all;
      owned = λ c own. own;
    }

    pub sq_closed : (qid region : ℕ) → EffectsAtOnce rules past (ClosedSq qid region) → Leaves (ClosedSq qid region) past q
    sq_closed qid region h = record {
      same = refl;
      opens_not = λ c is. cc is;
      closes_not = λ c is. cc is;
      pending = λ k x p. p;
      accepted = λ k x a. a;
      none = λ n. n;
      quiet = λ y. rest_none (NoTurn q) (no_turn q) xs all h;
      owned = λ c own. own;
    }

    pub cq_opened : (qid region : ℕ) → (qid ≡ q → ⊥) → EffectsAtOnce rules past (OpenCq qid region) → Leaves (OpenCq qid region) past q
    cq_opened qid region other h = record {
      same = rw (ne_eqb qid q other) refl;
      opens_not = λ c is. other (cc is);
      closes_not = λ c is. cc is;
      pending = λ k x p. p;
      accepted = λ k x a. a;
      none = λ n. n;
      quiet = rest_more (NoTurn q) (OpenCq qid region) (fewer_turns q (OpenCq qid region)) xs all;
      owned = λ c own. rw (ne_eqb region c (λ same. none-some q (sym (cq_fresh rules past effects qid region h) ∙ ap (cqid_of_region past) same ∙ own))) own;
    }

    pub cq_closed : (qid region : ℕ) → (qid ≡ q → ⊥) → Leaves (ClosedCq qid region) past q
    cq_closed qid region other = record {
      same = rw (ne_eqb qid q other) refl;
      opens_not = λ c is. cc is;
      closes_not = λ c is. other (cc is);
      pending = λ k x p. p;
      accepted = λ k x a. a;
      none = λ n. n;
      quiet = rest_more (NoTurn q) (ClosedCq qid region) (fewer_turns q (ClosedCq qid region)) xs all;
      owned = λ c own. own;
    }

    pub fetches : IsSound rules past → (s i : ℕ) (entry : Sqe) → EffectsAtOnce rules past (Fetch s i entry) → Leaves (Fetch s i entry) past q
    fetches sound s i entry h = record {
      same = refl;
      opens_not = λ c is. cc is;
      closes_not = λ c is. cc is;
      pending = λ k x p. (stays k x (s == 0) p.0, p.1);
      accepted = λ k x a. a;
      none = λ n k x p a turns. elim (before k x (s == 0) p.0) [
        | inl earlier ↦ n k x (earlier, p.1) a turns
        | inr last ↦ (let few = few_picked rules past sound in let below : k < picked past 0 = a.0 in omega (arith, few, below, last))
      ];
      quiet = λ y. rest_none (NoTurn q) (no_turn q) xs all h;
      owned = λ c own. own;
    } where
      stays : (k : ℕ) (x : Sqe) (b : Bool) → slice_get (fetched past 0) k ≡ Some x → slice_get (if b then fetched past 0 ++ entry ∷ [] else fetched past 0) k ≡ Some x
      stays k x true at = entry-stays (fetched past 0) (entry ∷ []) k x at
      stays k x false at = at

      before : (k : ℕ) (x : Sqe) (b : Bool) → slice_get (if b then fetched past 0 ++ entry ∷ [] else fetched past 0) k ≡ Some x → (slice_get (fetched past 0) k ≡ Some x) ⊎ (k ≡ length (fetched past 0))
      before k x true at = elim (get_push (fetched past 0) entry k x at) [
        | inl earlier ↦ inl earlier
        | inr last ↦ inr last.0
      ]
      before k x false at = inl at

    -- ---- the queue's own events
    pub open_own : (c : ℕ) (st : CqStage) → EffectsAtOnce rules past (OpenCq q c) → CqPhase past q st → CqPhase (OpenCq q c ∷ past) q st
    open_own c st h (absent o n y) = absurd ((rest_first (NoTurn q) (OpenCq q c) xs all y h).1.0 c (inl refl))
    open_own c st h (coming k entry d is p a o none made_is) =
        let one : OpenCq q c ≡ OpenCq q d = first-is_made rules past (OpenCq q c) (OpenCq q d) [] h none made_is in
        let region : d ≡ c = cc one in
        let whole : xs ++ OpenCq q c ∷ [] ≡ all = ap (λ (es : List Event). es ++ OpenCq q c ∷ []) none ∙ ap (λ (e : Event). e ∷ []) one ∙ sym made_is in
        hidden k entry c (subst (λ (z : ℕ). IsCqCreate entry q (cq_slots rules z)) region is) p a (rw (eq-eqb q q refl) refl)
        (rest_none (NoTurn q) (no_turn q) (xs ++ OpenCq q c ∷ []) all whole)
    open_own c st h (hidden k entry d is p a o y) = absurd ((rest_first (NoTurn q) (OpenCq q c) xs all y h).1.0 c (inl refl))
    open_own c st h (present d o n y) = absurd ((rest_first (NoTurn q) (OpenCq q c) xs all y h).1.0 c (inl refl))
    open_own c st h (leaving k entry d is p a o none made_is) = absurd (let one : OpenCq q c ≡ ClosedCq q d = first-is_made rules past (OpenCq q c) (ClosedCq q d) [] h none made_is in cc one)
    open_own c st h (gone k entry d is p a o own y) = absurd ((rest_first (NoTurn q) (OpenCq q c) xs all y h).1.0 c (inl refl))

    pub close_own : (c : ℕ) (st : CqStage) → EffectsAtOnce rules past (ClosedCq q c) → CqPhase past q st → CqPhase (ClosedCq q c ∷ past) q st
    close_own c st h (absent o n y) = absurd ((rest_first (NoTurn q) (ClosedCq q c) xs all y h).1.1 c (inl refl))
    close_own c st h (coming k entry d is p a o none made_is) = absurd (let one : ClosedCq q c ≡ OpenCq q d = first-is_made rules past (ClosedCq q c) (OpenCq q d) [] h none made_is in cc one)
    close_own c st h (hidden k entry d is p a o y) = absurd ((rest_first (NoTurn q) (ClosedCq q c) xs all y h).1.1 c (inl refl))
    close_own c st h (present d o n y) = absurd ((rest_first (NoTurn q) (ClosedCq q c) xs all y h).1.1 c (inl refl))
    close_own c st h (leaving k entry d is p a o none made_is) =
        let one : ClosedCq q c ≡ ClosedCq q d = first-is_made rules past (ClosedCq q c) (ClosedCq q d) [] h none made_is in
        let whole : xs ++ ClosedCq q c ∷ [] ≡ all = ap (λ (es : List Event). es ++ ClosedCq q c ∷ []) none ∙ ap (λ (e : Event). e ∷ []) one ∙ sym made_is in
        gone k entry d is p a (rw (eq-eqb q q refl) refl) (cq_owned rules past effects q d o) (rest_none (NoTurn q) (no_turn q) (xs ++ ClosedCq q c ∷ []) all whole)
    close_own c st h (gone k entry d is p a o own y) = absurd ((rest_first (NoTurn q) (ClosedCq q c) xs all y h).1.1 c (inl refl))
