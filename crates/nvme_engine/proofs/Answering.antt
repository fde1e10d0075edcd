-- The command of a tag is answered with its outcome.
use Rattle.std.proofs.Common.{◌≡◌, ℕ, ◌==◌, ◌&&◌, Bool, if◌then◌else◌, [], ◌∷◌, Some, None, sym, ap, ◌∙◌, subst, eqb-true, inl, inr}
use Rattle.std.proofs.lemmas.Bool.{cases_Bool, and_parts}
use Rattle.std.proofs.lemmas.Option.{same_Some}
use Rattle.nvme_entry.specs.Status.{StatusCode}
use Rattle.nvme_entry.specs.Outcome.{outcome_of}
use Rattle.nvme_entry.specs.declared.submission.Sqe.{Sqe}
use Rattle.nvme_log.specs.Rules.{FrontRules}
use Rattle.nvme_log.specs.Places.{entry_at}
use Rattle.nvme_log.specs.Answers as log
use Rattle.nvme_log.specs.declared.place.Place.{Place}
use Rattle.nvme_ctrl_log.specs.Notes.{Notes, Answered, Flagged, logged}
use Rattle.nvme_ctrl_log.specs.Tags.{holder, answer_of}
use Rattle.nvme_ctrl.specs.Standing as ctrl
use Rattle.nvme_ctrl_log.specs.declared.status_flags.StatusFlags.{StatusFlags}
use Rattle.nvme_engine.specs.Standing.{StandsAt, AnswersByOutcome}
use Rattle.nvme_engine.specs.Calls.{HasAnswered}
use Rattle.nvme_engine.specs.declared.engine.Engine.{Engine}
use Rattle.nvme_engine.proofs.Calls.{Leaves, same_pool, same_few}

-- no tag is given out before the first event
none_held : (notes : Notes) (tag : ℕ) (p : Place) → notes ≡ [] → holder notes tag ≡ Some p → ⊥
none_held notes tag p none is = (let no : holder notes tag ≡ None = ap (λ (ns : Notes). holder ns tag) none in cc (no, is))

-- an answer that is the outcome keeps all answers the outcomes
pub answered_by_outcome : (rules : FrontRules) (notes : Notes) (flags : StatusFlags) (r i : ℕ) (entry : Sqe) (answer : log.Answer) → AnswersByOutcome rules notes
    → entry_at (logged notes) r i ≡ Some entry → answer ≡ log.outcome_answer rules entry → AnswersByOutcome rules (Flagged r i flags ∷ Answered r i answer ∷ notes)
answered_by_outcome rules notes flags r i entry answer were at is x j other own io there given = elim (cases_Bool (r == x && i == j)) [
  | inl same ↦ (
      let parts = and_parts (r == x) (i == j) same in
      let here : entry_at (logged notes) r i ≡ Some other = (λ k. entry_at (logged notes) (eqb-true r x parts.0 k) (eqb-true i j parts.1 k)) ∙ there in
      let it : answer ≡ own = same_Some answer own (sym (ap (λ (b : Bool). if b then Some answer else answer_of notes x j) same) ∙ given) in
      sym it ∙ is ∙ ap (log.outcome_answer rules) (same_Some entry other (sym at ∙ here)))
  | inr apart ↦ were x j other own io there (sym (ap (λ (b : Bool). if b then Some answer else answer_of notes x j) apart) ∙ given)
]

module _ (rules : FrontRules) (late : Bool) (notes : Notes) (e : Engine) (s : StandsAt rules late notes e) (tag : ℕ) (p : Place) (held : holder notes tag ≡ Some p)
    (entry : Sqe) (at : entry_at (logged notes) p.region p.index ≡ Some entry) (status : StatusCode) (is : status ≡ outcome_of entry rules.sizes)
    (f : Engine) (left : Leaves e f) where
  abbrev answer : log.Answer
  answer = record { status = status; dw0 = 0 }

  stands_answered : (flags : StatusFlags) → ctrl.Stands s.their s.their_late (Flagged p.region p.index flags ∷ Answered p.region p.index answer ∷ notes) f.controller f.slots.items
      → StandsAt rules late (Flagged p.region p.index flags ∷ Answered p.region p.index answer ∷ notes) f
  stands_answered flags t = record {
    their = s.their;
    their_late = s.their_late;
    alike = s.alike;
    in_time = s.in_time;
    stands = t;
    plain = record { none_passed = s.plain.none_passed; none_arranged = s.plain.none_arranged; deletes = s.plain.deletes; alone = s.plain.alone };
    sq_rings = s.sq_rings;
    cq_rings = s.cq_rings;
    served = s.served;
    named = s.named;
    few = same_few e f (logged notes) left s.few;
    begun = λ none. absurd (none_held notes tag p (s.begun none) held);
    rung = s.rung;
    read = s.read;
    cookies = s.cookies;
    answers = answered_by_outcome rules notes flags p.region p.index entry answer s.answers at (ap (λ (x : StatusCode). record { status = x; dw0 = 0 }) is);
    untaken = s.untaken;
    lawful = s.lawful;
    places = s.places;
    pool = same_pool e f left s.pool;
    depths = left.depths ∙ s.depths;
    own = left.own ∙ s.own;
  }

  -- the place of the tag is told by its region and its index
  pub has_answered : (region index : ℕ) (flags : StatusFlags) → holder notes tag ≡ Some (record { region = region; index = index })
      → ctrl.Stands s.their s.their_late (Flagged region index flags ∷ Answered region index answer ∷ notes) f.controller f.slots.items
      → HasAnswered rules late notes p status f
  has_answered region index flags told t =
      let same : record { region = region; index = index } ≡ p = same_Some (record { region = region; index = index }) p (sym told ∙ held) in
      record {
        flags = flags;
        stands = stands_answered flags (subst (λ (q : Place). ctrl.Stands s.their s.their_late (Flagged q.region q.index flags ∷ Answered q.region q.index answer ∷ notes) f.controller f.slots.items) same t);
      }
