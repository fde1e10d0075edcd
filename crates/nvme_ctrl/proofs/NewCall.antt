-- A controller that is made stands at the empty log, at the rules of its admin regions.
use Rattle.nvme_ctrl.specs.Own.{no_own}
use Rattle.std.proofs.Common.{◌≡◌, ◌≢◌, ℕ, ◌%◌, ◌<◌, ◌^◌, ◌==◌, ◌||◌, nat_lt, Bool, false, true, List, [], ◌∷◌, ◌++◌, length, map, replicate, Option, option_map, Some, None, is_some, refl, sym, ap, ◌∙◌, subst, arith, IsTrue, if◌then◌else◌}
use Rattle.std.specs.Prelude.{slice_set}
use Rattle.std.specs.List.{position}
use Rattle.std.proofs.Math.Nat.{zero-div, zero-mod}
use Rattle.std.proofs.Math.Seq.{drop-nil}
use Rattle.std.proofs.lemmas.Bool.{eqb-true, eqb-false}
use Rattle.std.proofs.lemmas.Option.{same_Some}
use Rattle.std.proofs.lemmas.List.{length-set, length-replicate}
use Rattle.std.proofs.lemmas.List.Elements.{All-nil}
use Rattle.nvme_arbiter.specs.Limits.{queue_limit}
use Rattle.nvme_arbiter.specs.declared.pick.OpenQueue.{OpenQueue}
use Rattle.nvme_arbiter.specs.Queues.{queue_at}
use Rattle.nvme_arbiter.specs.Layout.{is_arbiter, board_of}
use Rattle.nvme_arbiter.specs.Settings.{ArbitrationFields}
use Rattle.nvme_arbiter.specs.Board.{BoardStandsAt}
use Rattle.nvme_arbiter.specs.declared.settings.Class.TheVariants.{Admin}
use Rattle.nvme_arbiter.specs.declared.settings.Mechanism.{Mechanism}
use Rattle.nvme_arbiter.specs.declared.board_fields.BoardFields.{BoardFields}
use Rattle.nvme_admin.specs.Accepted.{effects_of, queue_table}
use Rattle.nvme_admin.specs.Changes.{admin_queue as admin_entry}
use Rattle.nvme_admin.specs.History.{Placing, Start}
use Rattle.nvme_admin.specs.QueueTable.{region_number}
use Rattle.nvme_admin.specs.Standing.{TableView, region_fault}
use Rattle.nvme_admin.specs.declared.bounds.TheConstants.{MIN_SLOTS, MAX_SLOTS}
use Rattle.nvme_admin.specs.declared.limits.Limits.{Limits}
use Rattle.nvme_admin.specs.declared.region.Region.{Region}
use Rattle.nvme_admin.specs.declared.region.AdminError.{AdminError}
use Rattle.nvme_admin.specs.declared.region.AdminError.TheVariants.{Used, Size}
use Rattle.nvme_placing.specs.Telling.{Tells, content_of, placing_of}
use Rattle.nvme_placing.specs.declared.table.PlacedTable.{PlacedTable}
use Rattle.nvme_log.specs.Rules.{FrontRules, upto, sq_regions_of, cq_regions_of, slots_at}
use Rattle.nvme_log.specs.Completions.{phase_after}
use Rattle.nvme_log.proofs.Fates.{length-upto}
use Rattle.nvme_ctrl_log.specs.Making.{admin_fault, first_regions, first_rules, anywhere_rules}
use Rattle.nvme_slots.specs.Rings.{HasCounts, first_ring}
use Rattle.nvme_slots.specs.declared.chain.Chain.{Chain}
use Rattle.nvme_slots.specs.declared.slot.Slot.{Slot}
use Rattle.nvme_ctrl.specs.declared.state.SqState.{SqState}
use Rattle.nvme_ctrl.specs.declared.state.CqState.{CqState}
use Rattle.nvme_ctrl.specs.declared.state.Controller.{Controller}
use Rattle.nvme_ctrl_log.specs.First.{IsFirst}
use Rattle.nvme_ctrl_content.specs.Content.{Content}
use Rattle.nvme_ctrl.specs.kept.Kept.{Item, Items, HasNumbers, HasItems, HoldsDoorbells, HoldsTags, StandsAt, IsWaitingIn, IsOutIn, IsReadyIn, IsSqOf, IsCqOf, AreIds, DeleteItem, candidate_of, picked_of, delete_of, HasDeletions, shown_in}
use Rattle.nvme_slots.specs.Pool.{IsChain, slot_at}
use Rattle.nvme_ctrl.specs.kept.State.{no_sq_state, no_cq_state, no_chain, sq_at, cq_at, delete_tag}
use Rattle.nvme_ctrl_content.proofs.Beginning.{first_content, first_table, first_made, first_holds, first_sq_regions, first_cq_regions, same_each}
use Rattle.nvme_ctrl.proofs.Lives.{put_sq-states, put_cq-states}

-- the states of the queues, of which the admin queues are there
abbrev pub first_sq_state : ℕ → SqState
first_sq_state n = record no_sq_state { ring = first_ring n }

abbrev pub first_sq_states : ℕ → List SqState
first_sq_states n = slice_set (replicate 65 no_sq_state) 0 (first_sq_state n)

abbrev pub first_cq_state : ℕ → CqState
first_cq_state n = record no_cq_state { ring = first_ring n }

abbrev pub first_cq_states : ℕ → List CqState
first_cq_states n = slice_set (replicate 65 no_cq_state) 0 (first_cq_state n)

-- what is so of each of them
each_sq : (P : ℕ → SqState → Type 0) (n : ℕ) → P 0 (first_sq_state n) → ((x : ℕ) → x ≢ 0 → P x no_sq_state) → (x : ℕ) → P x (sq_at (first_sq_states n) x)
each_sq P n here others x = put_sq-states P (replicate 65 no_sq_state) 0 (first_sq_state n) (omega (arith, length-replicate 65 no_sq_state)) here x
    (λ other. subst (P x) (sym (same_each 65 x no_sq_state)) (others x other))

each_cq : (P : ℕ → CqState → Type 0) (n : ℕ) → P 0 (first_cq_state n) → ((x : ℕ) → x ≢ 0 → P x no_cq_state) → (x : ℕ) → P x (cq_at (first_cq_states n) x)
each_cq P n here others x = put_cq-states P (replicate 65 no_cq_state) 0 (first_cq_state n) (omega (arith, length-replicate 65 no_cq_state)) here x
    (λ other. subst (P x) (sym (same_each 65 x no_cq_state)) (others x other))

-- just the admin queue is kept, on region 0
abbrev first_life : ℕ → Option ℕ
first_life q = if q == 0 then Some 0 else None

first_is : (b : Bool) (r : ℕ) → (if b then Some 0 else None) ≡ Some r → (b ≡ true) × (0 ≡ r)
first_is true r h = (refl, same_Some 0 r h)
first_is false r h = absurd (cc h)

only_first : (q r : ℕ) → first_life q ≡ Some r → (q ≡ 0) × (0 ≡ r)
only_first q r h = let both = first_is (q == 0) r h in (eqb-true q 0 both.0, both.1)

first_none : (b : Bool) → if◌then◌else◌ {A = Option ℕ} b (Some 0) None ≡ None → b ≡ false
first_none true h = absurd (cc h)
first_none false h = refl

only_others : (q : ℕ) → first_life q ≡ None → q ≢ 0
only_others q h = eqb-false q 0 (first_none (q == 0) h)

first_ids : AreIds first_life first_life
first_ids = record { ids_are = told; lives_are = told; admin = refl } where
  told : (q r : ℕ) → first_life q ≡ Some r → first_life r ≡ Some q
  told q r h = let both = only_first q r h in
      subst (λ (y : ℕ). first_life y ≡ Some q) both.1 (ap Some (sym both.0))

-- so what is so of the admin queue is so of each that is kept
of_kept : (P : ℕ → ℕ → Type 0) → P 0 0 → (q r : ℕ) → first_life q ≡ Some r → P q r
of_kept P here q r is = let both = only_first q r is in subst (λ (x : ℕ). P x r) (sym both.0) (subst (λ (x : ℕ). P 0 x) both.1 here)

-- ---- the first table
-- a table without regions
empty_sqs : (p : PlacedTable) (start : Start) → placing_of p ≡ None → Tells p (queue_table start []) → (content_of p).sq_regions ≡ []
unfolding effects_of queue_table
empty_sqs p start on tells = (tells.by_regions on).sq_regions

empty_cqs : (p : PlacedTable) (start : Start) → placing_of p ≡ None → Tells p (queue_table start []) → (content_of p).cq_regions ≡ []
unfolding effects_of queue_table
empty_cqs p start on tells = (tells.by_regions on).cq_regions

-- a number of slots is outside its limits
abbrev is_bad : ℕ → Bool
is_bad n = nat_lt n MIN_SLOTS || nat_lt MAX_SLOTS n

-- what a table with no region refuses, and one with a submission region alone
sq_fault_is : (v : TableView) (sq : Region) → v.sq_regions ≡ [] → v.cq_regions ≡ [] → region_fault v v.sq_regions sq.address sq.slots ≡ (if is_bad sq.slots then Some Size else None)
sq_fault_is v sq sqs cqs = λ i. region_fault (record v { sq_regions = sqs i; cq_regions = cqs i }) (sqs i) sq.address sq.slots

one_known : (r : Region) (a : ℕ) → is_some (region_number (r ∷ []) a) ≡ (r.address == a)
one_known r a = by (r.address == a) where
  by : (b : Bool) → is_some (position (λ (x : Region). b) (r ∷ [])) ≡ b
  by true = refl
  by false = refl

cq_fault_is : (v : TableView) (sq cq : Region) → v.sq_regions ≡ record { address = sq.address; slots = sq.slots } ∷ [] → v.cq_regions ≡ []
    → region_fault v v.cq_regions cq.address cq.slots ≡ (if sq.address == cq.address then Some Used else (if is_bad cq.slots then Some Size else None))
cq_fault_is v sq cq sqs cqs =
    (λ i. region_fault (record v { sq_regions = sqs i; cq_regions = cqs i }) (cqs i) cq.address cq.slots)
    ∙ ap (λ (b : Bool). if b || false then Some Used else (if is_bad cq.slots then Some Size else None)) (one_known (record { address = sq.address; slots = sq.slots }) cq.address)
    ∙ by (sq.address == cq.address)
  where
    by : (b : Bool) → (if b || false then Some Used else (if is_bad cq.slots then Some Size else None)) ≡ (if b then Some Used else (if is_bad cq.slots then Some Size else None))
    by true = refl
    by false = refl

first_refused : (b : Bool) (rest : Option AdminError) (e : AdminError) → (if b then Some Size else None) ≡ Some e → (if b then Some Size else rest) ≡ Some e
first_refused true rest e is = is
first_refused false rest e is = absurd (cc is)

first_passed : (b : Bool) (rest : Option AdminError) → (if b then Some Size else None) ≡ None → (if b then Some Size else rest) ≡ rest
first_passed true rest is = absurd (cc is)
first_passed false rest is = refl

module _ (p q : PlacedTable) (start : Start) (sq cq : Region) (on : placing_of p ≡ None) (tells : Tells p (queue_table start [])) where
  -- the submission region is refused
  pub sq_refused : (e : AdminError) → region_fault (content_of p) (content_of p).sq_regions sq.address sq.slots ≡ Some e → admin_fault sq cq ≡ Some e
  sq_refused e is =
      first_refused (is_bad sq.slots) _ e (sym (sq_fault_is (content_of p) sq (empty_sqs p start on tells) (empty_cqs p start on tells)) ∙ is)

  -- it was added, and the completion region is refused, or added too
  module _ (added : region_fault (content_of p) (content_of p).sq_regions sq.address sq.slots ≡ None)
      (regions : (content_of q).sq_regions ≡ (content_of p).sq_regions ++ record { address = sq.address; slots = sq.slots } ∷ [])
      (rest : content_of q ≡ record (content_of p) { sq_regions = (content_of q).sq_regions; sqs = (content_of q).sqs }) where
    pub cq_fault : admin_fault sq cq ≡ region_fault (content_of q) (content_of q).cq_regions cq.address cq.slots
    cq_fault =
        first_passed (is_bad sq.slots) _ (sym (sq_fault_is (content_of p) sq (empty_sqs p start on tells) (empty_cqs p start on tells)) ∙ added)
        ∙ sym (cq_fault_is (content_of q) sq cq
        (regions ∙ ap (λ (rs : List Region). rs ++ record { address = sq.address; slots = sq.slots } ∷ []) (empty_sqs p start on tells))
        (ap (λ (v : TableView). v.cq_regions) rest ∙ empty_cqs p start on tells))

-- it is that of the rules
pub first_of_new : (mechanism : Mechanism) (settings : ArbitrationFields) (limits : Limits) (sq cq : Region) (sizes : List ℕ) (table : PlacedTable)
    → Tells table (queue_table (first_rules mechanism settings limits sq cq sizes).start (first_regions sq cq))
    → IsFirst (first_rules mechanism settings limits sq cq sizes) mechanism settings table sq.slots cq.slots
first_of_new mechanism settings limits sq cq sizes table tells = record {
  mechanism_is = refl;
  settings_are = refl;
  placing = None;
  sq_address = sq.address;
  cq_address = cq.address;
  regions_are = refl;
  tells = tells;
}

pub first_anywhere : (mechanism : Mechanism) (settings : ArbitrationFields) (limits : Limits) (p : Placing) (sq cq : Region) (sizes : List ℕ) (table : PlacedTable)
    → Tells table (queue_table (anywhere_rules mechanism settings limits p sq cq sizes).start (anywhere_rules mechanism settings limits p sq cq sizes).regions)
    → IsFirst (anywhere_rules mechanism settings limits p sq cq sizes) mechanism settings table sq.slots cq.slots
first_anywhere mechanism settings limits p sq cq sizes table tells = record {
  mechanism_is = refl;
  settings_are = refl;
  placing = Some p;
  sq_address = sq.address;
  cq_address = cq.address;
  regions_are = refl;
  tells = tells;
}

-- ---- the first controller
-- a ring with slots starts empty
first_ring-counts : (n : ℕ) → 0 < n → HasCounts (first_ring n) 0 0
first_ring-counts n some = record { some = some; head_is = sym (zero-mod n); tail_is = sym (zero-mod n); order = omega arith; fits = omega (arith, some) }

-- no command is in a slot
abbrev pub no_items : ℕ → Items
no_items n = record { windows = λ (r : ℕ). []; outs = []; readies = λ (x : ℕ). []; deletes = λ (r : ℕ). None; free = upto n }

-- the chain of no slot
no_chain-is : (slots : List Slot) → IsChain slots no_chain []
no_chain-is slots = record { len_is = refl; inside = All-nil (λ (x : ℕ). x < length slots); apart = tt; linked = tt }

-- a controller that was made
abbrev pub made : PlacedTable → BoardFields → (sq_slots cq_slots : ℕ) (depths : List ℕ) → Chain → Controller
made table board sq_slots cq_slots depths free = record {
  table = table;
  board = board;
  sqs = first_sq_states sq_slots;
  cqs = first_cq_states cq_slots;
  free = free;
  depths = depths;
  outstanding = 0;
  picked = 0;
  picked_qid = 0;
  pending_deletions = 0;
  own = no_own;
  rung = 0;
  readied = 0;
}

module _ (rules : FrontRules) (mechanism : Mechanism) (settings : ArbitrationFields) (table : PlacedTable) (sq_slots cq_slots : ℕ)
    (first : IsFirst rules mechanism settings table sq_slots cq_slots) (board : BoardFields) (depths : List ℕ) (slots : List Slot) (free : Chain) (n : ℕ)
    (stands : BoardStandsAt mechanism settings [] (board_of board))
    (queues : (board_of board).queues ≡ slice_set (replicate queue_limit None) 0 (Some (record { class = Admin; count = 0 })))
    (arbiter : IsTrue (is_arbiter board.arbiter))
    (some_sq : 0 < sq_slots) (some_cq : 0 < cq_slots)
    (chain : IsChain slots free (upto n)) (all_free : (x : ℕ) → (slot_at slots x).state ≡ 0) (few : length slots < 2 ^ 16) (size : length slots ≡ n)
  where
    abbrev c : Controller
    c = made table board sq_slots cq_slots depths free

    abbrev k : Content
    k = first_content rules (board_of board)

    sq_counts : HasCounts (first_ring sq_slots) 0 0
    sq_counts = first_ring-counts sq_slots some_sq

    cq_counts : HasCounts (first_ring cq_slots) 0 0
    cq_counts = first_ring-counts cq_slots some_cq

    -- the board stands at the rules
    board_stands : BoardStandsAt rules.mechanism rules.start.settings [] (board_of board)
    board_stands =
        subst (λ (m : Mechanism). BoardStandsAt m rules.start.settings [] (board_of board)) (sym first.mechanism_is)
        (subst (λ (a : ArbitrationFields). BoardStandsAt mechanism a [] (board_of board)) (sym first.settings_are) stands)

    -- the slots of the regions
    sq_here : sq_slots ≡ slots_at (sq_regions_of rules) 0
    sq_here = sym (ap (λ (rs : List Region). slots_at rs 0) (first_sq_regions rules first.placing first.sq_address sq_slots first.cq_address cq_slots first.regions_are))

    cq_here : cq_slots ≡ slots_at (cq_regions_of rules) 0
    cq_here = sym (ap (λ (rs : List Region). slots_at rs 0) (first_cq_regions rules first.placing first.sq_address sq_slots first.cq_address cq_slots first.regions_are))

    -- the states of the admin queues
    sq_is : sq_at (first_sq_states sq_slots) 0 ≡ first_sq_state sq_slots
    sq_is = each_sq (λ q state. q ≡ 0 → state ≡ first_sq_state sq_slots) sq_slots (λ e. refl) (λ q other e. absurd (other e)) 0 refl

    cq_is : cq_at (first_cq_states cq_slots) 0 ≡ first_cq_state cq_slots
    cq_is = each_cq (λ q state. q ≡ 0 → state ≡ first_cq_state cq_slots) cq_slots (λ e. refl) (λ q other e. absurd (other e)) 0 refl

    -- the admin queue is in the table
    in_table : k.table.sq 0 ≡ Some admin_entry
    in_table = (first_table rules first.placing first.sq_address sq_slots first.cq_address cq_slots first.regions_are).sq 0

    admin_shown : shown_in k.board 0 ≡ true
    admin_shown = ap (λ (qs : List (Option OpenQueue)). is_some (queue_at qs 0)) queues

    admin_sq_is : IsSqOf c k 0 0
    admin_sq_is = record {
      entry = admin_entry;
      in_table = in_table;
      on = refl;
      to = sym (ap (λ (state : SqState). state.cqid) sq_is);
      cq_region = 0;
      cq_open = ap (λ (state : SqState). first_life state.cqid) sq_is;
      opened = refl;
      held = ap (λ (state : SqState). state.held == 1) sq_is;
      shown = ap (λ (state : SqState). state.closing == 0) sq_is ∙ sym admin_shown;
      unposted = ap (λ (state : SqState). state.unposted) sq_is;
      slots = ap (λ (state : SqState). state.ring.slots) sq_is ∙ sq_here;
      some = subst (λ (m : ℕ). 0 < m) sq_here sq_counts.some;
    }

    admin_cq_is : IsCqOf c k 0 0
    admin_cq_is = record { slots = ap (λ (state : CqState). state.ring.slots) cq_is ∙ cq_here; some = subst (λ (m : ℕ). 0 < m) cq_here cq_counts.some }

    new_numbers : HasNumbers c k
    new_numbers = record {
      tells = first.tells;
      board_is = refl;
      is_arbiter = arbiter;
      outstanding_is = refl;
      sqs = record {
        ids = first_ids;
        each = of_kept (λ q r. IsSqOf c k q r) admin_sq_is;
        few = of_kept (λ q r. q < 65) (omega arith);
        none = λ q none. each_sq (λ y state. y ≢ 0 → state ≡ no_sq_state) sq_slots (λ other. absurd (other refl)) (λ y other also. refl) q (only_others q none);
        size = length-set (replicate 65 no_sq_state) 0 (first_sq_state sq_slots) ∙ length-replicate 65 no_sq_state;
        rung = λ q few out. each_sq (λ y state. state.ring.head ≡ state.ring.tail) sq_slots refl (λ y other. refl) q;
      };
      cqs = record {
        ids = first_ids;
        each = of_kept (λ q x. IsCqOf c k q x) admin_cq_is;
        few = of_kept (λ q r. q < 65) (omega arith);
        none = λ q none. each_cq (λ y state. y ≢ 0 → state ≡ no_cq_state) cq_slots (λ other. absurd (other refl)) (λ y other also. refl) q (only_others q none);
        size = length-set (replicate 65 no_cq_state) 0 (first_cq_state cq_slots) ∙ length-replicate 65 no_cq_state;
        readied = λ q few out. each_cq (λ y state. state.ready.len ≡ 0) cq_slots refl (λ y other. refl) q;
      };
    }

    no_delete : (o : Option ℕ) → delete_of (λ (r : ℕ). None) o ≡ None
    no_delete None = refl
    no_delete (Some r) = refl

    new_deletions : HasDeletions c.sqs 0 slots first_life (λ r. None) (λ r. None)
    new_deletions = record {
      are = λ r. refl;
      tags = λ q. each_sq (λ x state. delete_tag state ≡ None) sq_slots refl (λ x other. refl) q ∙ sym (ap (λ (o : Option DeleteItem). option_map (λ (it : DeleteItem). it.tag) o) (no_delete (first_life q)));
      queues = λ r it at. cc at;
      items = λ r it at. cc at;
      apart = λ r x it other at there same. cc at;
      counted = refl;
    }

    new_items : HasItems c slots k (no_items n)
    new_items = record {
      windows = record {
        chain = λ q r is. each_sq (λ x state. IsChain slots state.window []) sq_slots (no_chain-is slots) (λ x other. no_chain-is slots) q;
        items = λ q r is. All-nil (IsWaitingIn slots q r);
        none = λ r none. refl;
        are = λ r. ap (λ (its : List Item). map candidate_of its) (sym (drop-nil (picked_of c (first_life r))));
        picked_there = omega arith;
      };
      outs = record {
        items = All-nil (IsOutIn first_life slots);
        apart = tt;
        all = λ x out. (let z = all_free x in cc);
        hand_is = refl;
      };
      readies = record {
        chain = λ q x is. each_cq (λ y state. IsChain slots state.ready []) cq_slots (no_chain-is slots) (λ y other. no_chain-is slots) q;
        items = λ x. All-nil (IsReadyIn first_life slots);
        none = λ x none. refl;
        are = λ x. refl;
      };
      deletions = new_deletions;
      free = record {
        chain = chain;
        items = λ i e lt. all_free _;
      };
      few = few;
    }

    -- nothing was posted
    first_phase : (m : ℕ) → true ≡ phase_after 0 m
    first_phase m = sym (ap (λ (x : ℕ). x % 2 == 0) (zero-div m))

    new_doorbells : HoldsDoorbells rules [] c k
    new_doorbells = record {
      sqs = record {
        each = of_kept (λ q r. HasCounts (sq_at c.sqs q).ring 0 0) (subst (λ (state : SqState). HasCounts state.ring 0 0) (sym sq_is) sq_counts);
        no_tails = λ r none. refl;
      };
      cqs = record {
        each = of_kept (λ q x. HasCounts (cq_at c.cqs q).ring 0 0) (subst (λ (state : CqState). HasCounts state.ring 0 0) (sym cq_is) cq_counts);
        phases = of_kept (λ q x. ((cq_at c.cqs q).phase == 1) ≡ phase_after 0 (cq_at c.cqs q).ring.slots)
            (subst (λ (state : CqState). (state.phase == 1) ≡ phase_after 0 state.ring.slots) (sym cq_is) (first_phase cq_slots));
        no_heads = λ x none. refl;
        no_posts = λ x none. refl;
      };
    }

    new_tags : HoldsTags [] c slots k (no_items n)
    new_tags = record {
      untaken_are = refl;
      held = record {
        outs = λ i e lt. absurd (omega (arith, lt));
        readies = λ x i e lt. absurd (omega (arith, lt));
        none = λ t out answered. refl;
        answered = λ t answered. refl;
      };
      through = λ x i e lt. absurd (omega (arith, lt));
      unanswered = record {
        windows = λ r i e lt. absurd (omega (arith, lt));
        outs = λ i e lt. absurd (omega (arith, lt));
        deletes = λ r it at. refl;
        none = λ r i le. refl;
      };
      hand_entries = λ i e lt. absurd (omega (arith, lt));
      free_count = omega (arith, chain.len_is, length-upto n, size);
      cookies = record {
        windows = λ r i e lt. absurd (omega (arith, lt));
        outs = λ i e lt. absurd (omega (arith, lt));
        readies = λ x i e lt. absurd (omega (arith, lt));
        deletes = λ r it at. cc at;
        none = λ r i le. refl;
      };
      passed = record {
        all_handed = λ i e lt. absurd (omega (arith, lt));
        served = λ i is. cc is;
        readies = λ x i e lt. absurd (omega (arith, lt));
        deletes = λ r it at. refl;
      };
      flagged = record {
        none = λ r i none. refl;
        readies = λ x i e lt. absurd (omega (arith, lt));
      };
    }

    -- the controller stands at the empty log
    pub new-stands : StandsAt rules false [] c slots
    new-stands = record {
      content = k;
      items = no_items n;
      holds = first_holds rules first.placing first.sq_address sq_slots first.cq_address cq_slots first.regions_are (board_of board) board_stands queues;
      numbers = new_numbers;
      has = new_items;
      doorbells = new_doorbells;
      tags = new_tags;
      shown = record { held = λ q queue is. refl; classed = λ q queue is. refl };
      ordered = λ x. refl;
      regions = first_made rules first.placing first.sq_address sq_slots first.cq_address cq_slots first.regions_are (board_of board) board_stands queues;
      account = λ on_time. record { each = tt; lawful = tt; effects_whole = refl };
    }
