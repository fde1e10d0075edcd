-- What the next pick is shown of one queue: what the board has of it, and one of the items that arbitration sees.
use Rattle.std.proofs.Common.{◌≡◌, ℕ, zero, suc, ◌<◌, Bool, if◌then◌else◌, List, [], ◌∷◌, ◌++◌, length, map, Option, Some, None, refl, sym, ap, ◌∙◌, subst, arith, inl, inr}
use Rattle.std.specs.Prelude.{option_map, unwrap_or}
use Rattle.std.specs.List.{Contains, flat_map}
use Rattle.std.proofs.lemmas.Bool.{cases_eq}
use Rattle.std.proofs.lemmas.List.{append-nil, map-append}
use Rattle.std.proofs.lemmas.List.Concat.{flat_map-append}
use Rattle.std.proofs.lemmas.List.Elements.{Contains-push, Contains-push_cases, Contains-append_cases, Contains-append_left, Contains-append_right}
use Rattle.std.proofs.lemmas.Option.{none-some, same_Some}
use Rattle.nvme_arbiter.specs.Board.{BoardView}
use Rattle.nvme_arbiter.specs.Layout.{board_of}
use Rattle.nvme_arbiter.specs.Limits.{queue_limit}
use Rattle.nvme_arbiter.specs.Queues.{queue_at}
use Rattle.nvme_arbiter.specs.declared.pick.OpenQueue.{OpenQueue}
use Rattle.nvme_arbiter.specs.declared.pick.Seen.{Seen}
use Rattle.nvme_log.specs.Rules.{FrontRules, Past, upto}
use Rattle.nvme_log.specs.Queues.{Queue, open_sq}
use Rattle.nvme_log.specs.Places.{waiting, seen_as}
use Rattle.nvme_ctrl_log.specs.Notes.{Notes, logged}
use Rattle.nvme_ctrl_log.specs.Observation.{is_held, class_set, shown, shown_as, seen_in}
use Rattle.nvme_ctrl.specs.Laws.{SeenOneByOne}
use Rattle.nvme_slots.specs.declared.slot.Slot.{Slot}
use Rattle.nvme_ctrl.specs.declared.state.Controller.{Controller}
use Rattle.nvme_ctrl.specs.kept.Kept.{StandsAt}
use Rattle.nvme_ctrl_content.specs.Standing.{on_board}
use Rattle.nvme_ctrl_content.proofs.Observing.{waiting_length}

-- a queue of the board, as arbitration sees it
abbrev pub seen_on : ℕ → OpenQueue → Seen
seen_on q queue = record { qid = q; class = queue.class; count = queue.count }

module _ (rules : FrontRules) (late : Bool) (notes : Notes) (c : Controller) (slots : List Slot) (s : StandsAt rules late notes c slots) (q : ℕ) where
  abbrev past : Past
  past = logged notes

  -- the board has an open queue as it is shown
  shown_on : (queue : Queue) → open_sq past q ≡ Some queue → seen_on q (on_board s.content queue) ≡ shown_as notes q queue
  shown_on queue is =
      let held : s.content.held queue.region ≡ is_held notes q = s.shown.held q queue is in
      let classed : s.content.classed queue.region ≡ class_set notes q = s.shown.classed q queue is in
      let counted : length (s.content.sq queue.region).window ≡ length (waiting past queue.region) = sym (waiting_length past s.content queue.region (s.holds.regions queue.region)) in
      λ t. record { qid = q; class = unwrap_or (classed t) queue.class; count = if held t then 0 else counted t }

  -- what the board has under an identifier is what is seen there
  pub seen_is : option_map (seen_on q) (queue_at (board_of c.board).queues q) ≡ seen_in notes q
  seen_is =
      ap (λ (b : BoardView). option_map (seen_on q) (queue_at b.queues q)) s.numbers.board_is
      ∙ ap (option_map (seen_on q)) (s.holds.queues.board q) ∙ by (open_sq past q) refl
    where
      by : (o : Option Queue) → open_sq past q ≡ o → option_map (seen_on q) (option_map (on_board s.content) o) ≡ option_map (shown_as notes q) o
      by None is = refl
      by (Some queue) is = ap (λ (x : Seen). Some x) (shown_on queue is)

-- ---- one by one
module _ (notes : Notes) where
  abbrev log : Past
  log = logged notes

  -- the items of one identifier, and of those below a number
  abbrev item_of : ℕ → Option Queue → List Seen
  item_of q o = map (shown notes) (seen_as log q o)

  abbrev items_of : List ℕ → List Seen
  items_of qs = map (shown notes) (flat_map (λ (q : ℕ). seen_as log q (open_sq log q)) qs)

  -- one of an identifier is what is seen in it
  one_seen : (q : ℕ) (o : Option Queue) → open_sq log q ≡ o → (s : Seen) → Contains (item_of q o) s → seen_in notes s.qid ≡ Some s
  one_seen q None is s h = absurd (let none = h.1 in omega (arith, none))
  one_seen q (Some queue) is s h =
      let item : Seen = shown_as notes q queue in
      let there : seen_in notes q ≡ Some item = ap (option_map (shown_as notes q)) is in
      let same : item ≡ s = only_one item s h in
      ap (λ (x : Seen). seen_in notes x.qid) (sym same) ∙ there ∙ ap (λ (x : Seen). Some x) same
    where
      only_one : (x y : Seen) → Contains (x ∷ []) y → x ≡ y
      only_one x y h = elim (Contains-push_cases [] x y h) [
        | inl e ↦ absurd (let none = e.1 in omega (arith, none))
        | inr e ↦ e
      ]

  -- so is each of several
  pub observed_seen : (qs : List ℕ) (s : Seen) → Contains (items_of qs) s → seen_in notes s.qid ≡ Some s
  observed_seen [] s h = absurd (let none = h.1 in omega (arith, none))
  observed_seen (q ∷ qs) s h =
      elim (Contains-append_cases (item_of q (open_sq log q)) (items_of qs) s
      (subst (λ (xs : List Seen). Contains xs s) (map-append (shown notes) (seen_as log q (open_sq log q)) (flat_map (λ (p : ℕ). seen_as log p (open_sq log p)) qs)) h)) [
        | inl here ↦ one_seen q (open_sq log q) refl s here
        | inr there ↦ observed_seen qs s there
      ]

  -- what is seen in an identifier is an item of it
  seen_one : (o : Option Queue) (s : Seen) → open_sq log s.qid ≡ o → seen_in notes s.qid ≡ Some s → Contains (item_of s.qid o) s
  seen_one None s is h = absurd (none-some s (ap (option_map (shown_as notes s.qid)) (sym is) ∙ h))
  seen_one (Some queue) s is h =
      let item : Seen = shown_as notes s.qid queue in
      let same : item ≡ s = same_Some item s (ap (option_map (shown_as notes s.qid)) (sym is) ∙ h) in
      subst (λ (x : Seen). Contains (x ∷ []) s) (sym same) (Contains-push [] s)

  -- and of all that are below a number
  pub seen_observed : (n : ℕ) (s : Seen) → s.qid < n → seen_in notes s.qid ≡ Some s → Contains (items_of (upto n)) s
  seen_observed zero s within h = absurd (omega (arith, within))
  seen_observed (suc n) s within h =
      let f : ℕ → List Seen = λ (q : ℕ). seen_as log q (open_sq log q) in
      let split : items_of (upto (suc n)) ≡ items_of (upto n) ++ item_of n (open_sq log n) =
      ap (map (shown notes)) (flat_map-append f (upto n) (n ∷ []) ∙ ap (λ (ys : List Seen). flat_map f (upto n) ++ ys) (append-nil (f n)))
      ∙ map-append (shown notes) (flat_map f (upto n)) (f n) in
      subst (λ (xs : List Seen). Contains xs s) (sym split) (elim (cases_eq s.qid n) [
        | inl last ↦ Contains-append_right (items_of (upto n)) (item_of n (open_sq log n)) s
            (subst (λ (q : ℕ). Contains (item_of q (open_sq log q)) s) last (seen_one (open_sq log s.qid) s refl h))
        | inr below ↦ Contains-append_left (items_of (upto n)) (item_of n (open_sq log n)) s (seen_observed n s (omega (arith, within, below)) h)
      ])

-- so the items are what is seen in the identifiers
pub seen_one_by_one : SeenOneByOne
seen_one_by_one rules late notes c slots s seen = (
  observed_seen notes (upto queue_limit) seen,
  λ is. seen_observed notes queue_limit seen (within (open_sq (logged notes) seen.qid) refl is) is,
) where
  within : (o : Option Queue) → open_sq (logged notes) seen.qid ≡ o → seen_in notes seen.qid ≡ Some seen → seen.qid < queue_limit
  within None is h = absurd (none-some seen (ap (option_map (shown_as notes seen.qid)) (sym is) ∙ h))
  within (Some queue) is h = let few = s.holds.queues.few seen.qid queue is in omega (arith, few)
