-- When no ready completion can be posted: of each ready place the command is through, so it is posted, or its ring is full.
use Rattle.std.proofs.Common.{◌≡◌, ℕ, zero, suc, ◌<◌, ◌==◌, ◌&&◌, true, false, List, [], ◌∷◌, Some, refl, sym, ap, ◌∙◌, subst, arith, inl, inr}
use Rattle.std.specs.List.{Contains, list_any}
use Rattle.std.proofs.lemmas.Bool.{eq-eqb, or_right, true≢false}
use Rattle.std.proofs.lemmas.Option.{same_Some}
use Rattle.nvme_log.specs.Account.{deleting_place}
use Rattle.nvme_log.specs.Aborts.{is_index}
use Rattle.nvme_log.specs.Completions.{is_posted}
use Rattle.nvme_log.specs.Dispatches.{place_at}
use Rattle.nvme_log.specs.Places.{is_served}
use Rattle.nvme_log.specs.Queues.{cq_region_of, open_cq}
use Rattle.nvme_log.specs.Rules.{Past}
use Rattle.nvme_log.specs.declared.place.Place.{Place}
use Rattle.nvme_ctrl_log.specs.Notes.{logged}
use Rattle.nvme_ctrl_log.specs.Posts.{AllPosted}
use Rattle.nvme_ctrl_log.specs.Tags.{handed, taken, holder, is_through}
use Rattle.nvme_ctrl.proofs.OpenRegions.{IsOpenOn, cq_is_open}
use Rattle.nvme_ctrl.proofs.UnpostedPlaces.{served_is}
use Rattle.nvme_engine.proofs.OneDeletion.{deleting_is_pending}
use Rattle.nvme_jobs.specs.Hands.{in_hand, is_in_hand}
use Rattle.nvme_jobs.specs.declared.dispatched.Dispatched.{Dispatched}
use Rattle.nvme_front.specs.View.{FrontView, IsReadyPlace, NoneCanBePosted, past_in, free_in}
use Rattle.nvme_front.specs.declared.state.FrontState.{FrontState}
use Rattle.nvme_front.specs.inside.Goes.{IsSame, IsDrained}
use Rattle.nvme_front.specs.inside.Room.{IsRunning}
use Rattle.nvme_front.specs.inside.State.{rules_of, past_of, view_of}
use Rattle.nvme_front.proofs.States.{same_view}
use Rattle.nvme_front.proofs.HeldTags.{all_taken}
use Rattle.nvme_front.proofs.TagSteps.{IsTagOf, tag_of}

-- a command that is among some has its place among theirs
pub place_among : (ds : List Dispatched) (d : Dispatched) (r i : ℕ) → Contains ds d → d.place ≡ place_at r i
    → list_any (λ (x : Dispatched). x.place.region == r && x.place.index == i) ds ≡ true
place_among [] d r i (k, lt, is) place = absurd (omega (arith, lt))
place_among (x ∷ ds) d r i (zero, lt, is) place =
    rw (
      eq-eqb x.place.region r (ap (λ (y : Dispatched). y.place.region) is ∙ ap (λ (p : Place). p.region) place),
      eq-eqb x.place.index i (ap (λ (y : Dispatched). y.place.index) is ∙ ap (λ (p : Place). p.index) place),
    ) refl
place_among (x ∷ ds) d r i (suc k, lt, is) place =
    or_right (x.place.region == r && x.place.index == i) (list_any (λ (y : Dispatched). y.place.region == r && y.place.index == i) ds)
    (place_among ds d r i (k, omega (arith, lt), is) place)

module _ (s : FrontState) (k : IsRunning s) where
  -- what was logged is what the notes log
  served_there : (r i : ℕ) → is_served (past_of s) r i ≡ true → is_served (logged k.notes) r i ≡ true
  served_there r i e = ap (λ (p : Past). is_served p r i) k.past_is ∙ e

  unposted_there : (r i : ℕ) → is_posted (past_of s) r i ≡ false → is_posted (logged k.notes) r i ≡ false
  unposted_there r i e = ap (λ (p : Past). is_posted p r i) k.past_is ∙ e

  -- the command of a ready place is through
  pub ready_is_through : (r i : ℕ) → IsReadyPlace (view_of s) r i → is_through k.notes r i ≡ true
  ready_is_through r i ready =
      let all : handed k.notes ≡ taken k.notes = all_taken (rules_of s) s.late k.notes s.engine k.stands in
      let c = s.engine.controller in
      elim (served_is k.stands.their k.stands.their_late k.notes c s.engine.slots.items k.stands.stands all r i (served_there r i ready.served) (unposted_there r i ready.unposted)) [
        | inl through ↦ through
        | inr (inl tagged) ↦ absurd (
            let it : IsTagOf k.notes (in_hand s.jobs.hands) tagged.tag = tag_of k.notes s.jobs tagged.tag k.tags tagged.out in
            let place : it.command.place ≡ place_at r i =
            same_Some it.command.place (place_at r i) (sym it.tagged.held ∙ ap (holder k.notes) it.tag ∙ tagged.held) in
            let here : is_in_hand s.jobs.hands r i ≡ true = place_among (in_hand s.jobs.hands) it.command r i it.among place in
            true≢false (sym here ∙ ready.has_result))
        | inr (inr deletes) ↦ absurd (
            let at : deleting_place (past_of s) ≡ Some i =
            ap deleting_place (sym k.past_is)
            ∙ (deleting_is_pending (logged k.notes) k.stands.plain.deletes k.stands.plain.alone deletes.region i deletes.deletes).place in
            let here : (r == 0 && is_index i (deleting_place (past_of s))) ≡ true =
            rw (eq-eqb r 0 deletes.of_admin, at) (eq-eqb i i refl) in
            true≢false (sym here ∙ ready.not_deleting))
      ]

  -- where all that is through is posted, nothing can be
  pub all_posted_drains : (c : ℕ) → AllPosted k.notes c → IsDrained s c
  all_posted_drains c posted = λ r i ready region.
      let yes : is_posted (logged k.notes) r i ≡ true = posted r i (ap (λ (p : Past). cq_region_of p r) k.past_is ∙ region) (ready_is_through r i ready) in
      let no : is_posted (logged k.notes) r i ≡ false = unposted_there r i ready.unposted in
      absurd (true≢false (sym yes ∙ no))

  -- where each open completion queue is drained, no ready completion can be posted
  pub all_drained : ((q x : ℕ) → q < 65 → open_cq (past_of s) q ≡ Some x → IsDrained s x) → NoneCanBePosted (view_of s)
  all_drained drained = λ r i ready c region.
      let at : IsOpenOn k.notes c =
      cq_is_open k.stands.their k.stands.their_late k.notes s.engine.controller s.engine.slots.items k.stands.stands r i c
      (served_there r i ready.served) (unposted_there r i ready.unposted) (ap (λ (p : Past). cq_region_of p r) k.past_is ∙ region) in
      drained at.cqid c at.few (ap (λ (p : Past). open_cq p at.cqid) (sym k.past_is) ∙ at.is_open) r i ready region

-- a ring that is full takes none
pub full_drains : (s : FrontState) (c : ℕ) → free_in (view_of s) c ≡ 0 → IsDrained s c
full_drains s c none = λ r i ready region. none

-- so it is by what a contract sees
abbrev IsDrainedIn : FrontView → ℕ → Type 0
IsDrainedIn v c = (r i : ℕ) → IsReadyPlace v r i → cq_region_of (past_in v) r ≡ Some c → free_in v c ≡ 0

-- where nothing changed, what has nothing to post has nothing later on
pub drained_on : (a b : FrontState) (c : ℕ) → IsSame a b → IsDrained a c → IsDrained b c
drained_on a b c same h = subst (λ (v : FrontView). IsDrainedIn v c) (sym (same_view a b same)) h
