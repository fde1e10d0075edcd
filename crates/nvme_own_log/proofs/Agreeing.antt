-- What a log says of a queue agrees with the counts of the queue's own side, event by event.
use Rattle.std.proofs.Common.{◌≡◌, ℕ, zero, suc, ◌+◌, ◌%◌, ◌<◌, ◌≤◌, ◌==◌, ◌&&◌, Bool, true, false, List, [], ◌∷◌, ◌++◌, length, Option, Some, is_some, refl, sym, ap, ◌∙◌, arith, ◌⊎◌, inl, inr}
use Rattle.std.specs.Prelude.{slice_get}
use Rattle.std.proofs.lemmas.Bool.{eq-eqb, ne_eqb}
use Rattle.std.proofs.lemmas.Option.{none-some, same_Some}
use Rattle.std.proofs.lemmas.List.{length_push}
use Rattle.nvme_entry.specs.AdminCommand.{admin_command_of}
use Rattle.nvme_entry.specs.declared.submission.Sqe.{Sqe}
use Rattle.nvme_entry.specs.declared.admin.AdminCommand.{AdminCommand}
use Rattle.nvme_entry.specs.declared.admin.AdminCommand.TheVariants.{DeleteSq, CreateSq, DeleteCq, CreateCq, Abort, SetFeatures, GetFeatures, Other}
use Rattle.nvme_audit.specs.declared.event.Event.TheVariants.{Tail, Head, Fetch, Post}
use Rattle.nvme_audit.specs.declared.event.Completion.{Completion}
use Rattle.nvme_audit.specs.declared.facts.Start.{Start}
use Rattle.nvme_audit.specs.declared.facts.Ring.{Ring}
use Rattle.nvme_audit.specs.Lives.{Past, turns_sq, asked, done}
use Rattle.nvme_audit.specs.Queues.{ring_by, ring_of, turns_cq, qsize_by, qsize_of}
use Rattle.nvme_audit.specs.Rings.{slots_of, gap, advanced_where_open, qsize_in, submitted, fetched, posted, consumed, number_of}

-- ---- submission queues
-- a command is outstanding: its name asks it, under its number
pub record IsOut (log : Past) (q i : ℕ) (entry : Sqe) : Type 0 where
  pub asks : asked log q entry.cid ≡ Some (admin_command_of entry)
  pub number_is : number_of log q entry.cid ≡ i

-- the log agrees with a queue of so many slots, by its completion queue, how many commands the host submitted, what was fetched, and what of it is answered
pub record SqAgrees (start : Start) (log : Past) (q slots cqid many : ℕ) (entries : List Sqe) (is_answered : ℕ → Bool) : Type 0 where
  pub ring : Ring
  pub ring_is : ring_of start log q ≡ Some ring
  pub cqid_is : ring.cqid ≡ cqid
  pub slots_are : 0 < slots → slots_of ring.qsize ≡ slots
  pub submitted_is : submitted start log q ≡ many
  pub some_slots : 0 < many ⊎ 0 < length entries → 0 < slots
  pub fetched_is : fetched log q ≡ length entries
  pub outs : (i : ℕ) (entry : Sqe) → slice_get entries i ≡ Some entry → is_answered i ≡ false → IsOut log q i entry

pub no_turn : (a : AdminCommand) (q : ℕ) (ring : Option Ring) → turns_sq a q ≡ false → ring_by a q ring ≡ ring
no_turn (DeleteSq qid) q ring h = rw h refl
no_turn (CreateSq qid qsize prp1 cqid qprio pc) q ring h = rw h refl
no_turn (DeleteCq qid) q ring h = refl
no_turn (CreateCq qid qsize prp1 pc) q ring h = refl
no_turn (Abort sqid cid) q ring h = refl
no_turn (SetFeatures fid sv cdw11) q ring h = refl
no_turn (GetFeatures fid) q ring h = refl
no_turn Other q ring h = refl

and_none : (a b : Bool) → b ≡ false → (a && b) ≡ false
and_none true b h = h
and_none false b h = refl

-- what stands in a list with one more
pub get_push : (xs : List Sqe) (y : Sqe) (p : ℕ) (x : Sqe) → slice_get (xs ++ y ∷ []) p ≡ Some x → (slice_get xs p ≡ Some x) ⊎ ((p ≡ length xs) × (y ≡ x))
get_push [] y zero x h = inr (refl, same_Some y x h)
get_push [] y (suc p) x h = absurd (none-some x h)
get_push (z ∷ xs) y zero x h = inl h
get_push (z ∷ xs) y (suc p) x h = elim (get_push xs y p x h) [
  | inl e ↦ inl e
  | inr e ↦ inr (ap (λ (k : ℕ). suc k) e.0 ∙ refl, e.1)
]

module _ (start : Start) (log : Past) (q slots cqid many : ℕ) (entries : List Sqe) (is_answered : ℕ → Bool) where
  abbrev Agrees : Type 0
  Agrees = SqAgrees start log q slots cqid many entries is_answered

  -- doorbells and fetches of other queues leave it
  pub sq_other_tail : (sq slot : ℕ) → (sq == q) ≡ false → Agrees → SqAgrees start (Tail sq slot ∷ log) q slots cqid many entries is_answered
  sq_other_tail sq slot other a = record {
    ring = a.ring;
    ring_is = a.ring_is;
    cqid_is = a.cqid_is;
    slots_are = a.slots_are;
    submitted_is = rw other a.submitted_is;
    some_slots = a.some_slots;
    fetched_is = a.fetched_is;
    outs = λ i entry at unanswered. record { asks = (a.outs i entry at unanswered).asks; number_is = (a.outs i entry at unanswered).number_is };
  }

  pub sq_head : (cq slot : ℕ) → Agrees → SqAgrees start (Head cq slot ∷ log) q slots cqid many entries is_answered
  sq_head cq slot a = record {
    ring = a.ring;
    ring_is = a.ring_is;
    cqid_is = a.cqid_is;
    slots_are = a.slots_are;
    submitted_is = a.submitted_is;
    some_slots = a.some_slots;
    fetched_is = a.fetched_is;
    outs = λ i entry at unanswered. record { asks = (a.outs i entry at unanswered).asks; number_is = (a.outs i entry at unanswered).number_is };
  }

  pub sq_other_fetch : (sq cid : ℕ) (slot : Option ℕ) (command : AdminCommand) → (sq == q) ≡ false → Agrees → SqAgrees start (Fetch sq slot cid command ∷ log) q slots cqid many entries is_answered
  sq_other_fetch sq cid slot command other a = record {
    ring = a.ring;
    ring_is = a.ring_is;
    cqid_is = a.cqid_is;
    slots_are = a.slots_are;
    submitted_is = a.submitted_is;
    some_slots = a.some_slots;
    fetched_is = rw other a.fetched_is;
    outs = λ i entry at unanswered. record { asks = rw other (a.outs i entry at unanswered).asks; number_is = rw other (a.outs i entry at unanswered).number_is };
  }

  -- its own tail
  pub sq_tail : (sq slot : ℕ) → sq ≡ q → slot < slots → many + gap slots (many % slots) slot < length entries + slots → Agrees
      → SqAgrees start (Tail sq slot ∷ log) q slots cqid (many + gap slots (many % slots) slot) entries is_answered
  sq_tail sq slot own below fits a =
      let same : slots_of a.ring.qsize ≡ slots = a.slots_are (omega (arith, below)) in
      record {
        ring = a.ring;
        ring_is = a.ring_is;
        cqid_is = a.cqid_is;
        slots_are = a.slots_are;
        submitted_is =
            rw (eq-eqb sq q own, ap (λ (o : Option Ring). advanced_where_open (qsize_in o) (submitted start log q) slot) a.ring_is, a.submitted_is)
            (ap (λ (n : ℕ). many + gap n (many % n) slot) same);
        some_slots = λ some. omega (arith, below);
        fetched_is = a.fetched_is;
        outs = λ i entry at unanswered. record { asks = (a.outs i entry at unanswered).asks; number_is = (a.outs i entry at unanswered).number_is };
      }

  -- a fetch of its next command, under a free name
  pub sq_fetch : (sq : ℕ) (slot : Option ℕ) (entry : Sqe) → sq ≡ q → length entries < many → is_some (asked log q entry.cid) ≡ false → Agrees
      → SqAgrees start (Fetch sq slot entry.cid (admin_command_of entry) ∷ log) q slots cqid many (entries ++ entry ∷ []) is_answered
  sq_fetch sq slot entry own more free a = record {
    ring = a.ring;
    ring_is = a.ring_is;
    cqid_is = a.cqid_is;
    slots_are = a.slots_are;
    submitted_is = a.submitted_is;
    some_slots = λ some. a.some_slots (inl (omega (arith, more)));
    fetched_is = rw (eq-eqb sq q own) (omega (arith, a.fetched_is, length_push entries entry));
    outs = λ i other at unanswered. elim (get_push entries entry i other at) [
      | inl earlier ↦ kept i other (a.outs i other earlier unanswered)
      | inr last ↦ new i other last.0 last.1
    ];
  } where
    kept : (i : ℕ) (other : Sqe) → IsOut log q i other → IsOut (Fetch sq slot entry.cid (admin_command_of entry) ∷ log) q i other
    kept i other o =
        let apart : (entry.cid == other.cid) ≡ false = ne_eqb entry.cid other.cid (λ e. let none : is_some (asked log q other.cid) ≡ false = ap (λ (c : ℕ). is_some (asked log q c)) (sym e) ∙ free in
        let some : is_some (asked log q other.cid) ≡ true = ap (λ (c : Option AdminCommand). is_some c) o.asks in cc (none, some)) in
        record { asks = rw (and_none (sq == q) (entry.cid == other.cid) apart) o.asks; number_is = rw (and_none (sq == q) (entry.cid == other.cid) apart) o.number_is }

    new : (i : ℕ) (other : Sqe) → i ≡ length entries → entry ≡ other → IsOut (Fetch sq slot entry.cid (admin_command_of entry) ∷ log) q i other
    new i other last same =
        let cids : entry.cid ≡ other.cid = ap (λ (e : Sqe). e.cid) same in
        record {
          asks = rw (eq-eqb sq q own, eq-eqb entry.cid other.cid cids) (ap (λ (e : Sqe). Some (admin_command_of e)) same);
          number_is = rw (eq-eqb sq q own, eq-eqb entry.cid other.cid cids) (a.fetched_is ∙ sym last);
        }

  -- a completion that turns another queue, and names none of its commands that stay unanswered
  pub sq_post : (cq : ℕ) (slot : Option ℕ) (completion : Completion) (will : ℕ → Bool) → turns_sq (done log completion) q ≡ false
      → ((i : ℕ) (entry : Sqe) → slice_get entries i ≡ Some entry → will i ≡ false → (is_answered i ≡ false) × ((completion.sq == q && completion.cid == entry.cid) ≡ false))
      → Agrees → SqAgrees start (Post cq slot completion ∷ log) q slots cqid many entries will
  sq_post cq slot completion will unturned leaves a = record {
    ring = a.ring;
    ring_is = no_turn (done log completion) q (ring_of start log q) unturned ∙ a.ring_is;
    cqid_is = a.cqid_is;
    slots_are = a.slots_are;
    submitted_is = rw unturned a.submitted_is;
    some_slots = a.some_slots;
    fetched_is = rw unturned a.fetched_is;
    outs = λ i entry at unanswered. let left = leaves i entry at unanswered in
        let o = a.outs i entry at left.0 in
        record { asks = rw (unturned, left.1) o.asks; number_is = o.number_is };
  }

  -- fewer of its commands may be asked for
  pub sq_fewer : (will : ℕ → Bool) → ((i : ℕ) → will i ≡ false → is_answered i ≡ false) → Agrees → SqAgrees start log q slots cqid many entries will
  sq_fewer will leaves a = record {
    ring = a.ring;
    ring_is = a.ring_is;
    cqid_is = a.cqid_is;
    slots_are = a.slots_are;
    submitted_is = a.submitted_is;
    some_slots = a.some_slots;
    fetched_is = a.fetched_is;
    outs = λ i entry at unanswered. a.outs i entry at (leaves i unanswered);
  }

  -- a name is that of one command
  pub sq_names : (i k : ℕ) (entry other : Sqe) → slice_get entries i ≡ Some entry → slice_get entries k ≡ Some other → is_answered i ≡ false → is_answered k ≡ false
      → entry.cid ≡ other.cid → Agrees → i ≡ k
  sq_names i k entry other at there fi fk same a =
      sym (a.outs i entry at fi).number_is ∙ ap (λ (c : ℕ). number_of log q c) same ∙ (a.outs k other there fk).number_is

-- ---- completion queues
-- the log agrees with a completion queue of so many slots, by how many completions were posted and consumed
pub record CqAgrees (start : Start) (log : Past) (q slots many taken : ℕ) : Type 0 where
  pub qsize : ℕ
  pub qsize_is : qsize_of start log q ≡ Some qsize
  pub slots_are : 0 < slots → slots_of qsize ≡ slots
  pub posted_is : posted log q ≡ many
  pub consumed_is : consumed start log q ≡ taken
  pub fits : taken ≤ many

pub no_cq_turn : (a : AdminCommand) (q : ℕ) (size : Option ℕ) → turns_cq a q ≡ false → qsize_by a q size ≡ size
no_cq_turn (DeleteSq qid) q size h = refl
no_cq_turn (CreateSq qid qsize prp1 cqid qprio pc) q size h = refl
no_cq_turn (DeleteCq qid) q size h = rw h refl
no_cq_turn (CreateCq qid qsize prp1 pc) q size h = rw h refl
no_cq_turn (Abort sqid cid) q size h = refl
no_cq_turn (SetFeatures fid sv cdw11) q size h = refl
no_cq_turn (GetFeatures fid) q size h = refl
no_cq_turn Other q size h = refl

module _ (start : Start) (log : Past) (q slots many taken : ℕ) where
  pub cq_tail : (sq slot : ℕ) → CqAgrees start log q slots many taken → CqAgrees start (Tail sq slot ∷ log) q slots many taken
  cq_tail sq slot a = record { qsize = a.qsize; qsize_is = a.qsize_is; slots_are = a.slots_are; posted_is = a.posted_is; consumed_is = a.consumed_is; fits = a.fits }

  pub cq_fetch : (sq cid : ℕ) (slot : Option ℕ) (command : AdminCommand) → CqAgrees start log q slots many taken → CqAgrees start (Fetch sq slot cid command ∷ log) q slots many taken
  cq_fetch sq cid slot command a = record { qsize = a.qsize; qsize_is = a.qsize_is; slots_are = a.slots_are; posted_is = a.posted_is; consumed_is = a.consumed_is; fits = a.fits }

  pub cq_other_head : (cq slot : ℕ) → (cq == q) ≡ false → CqAgrees start log q slots many taken → CqAgrees start (Head cq slot ∷ log) q slots many taken
  cq_other_head cq slot other a = record {
    qsize = a.qsize;
    qsize_is = a.qsize_is;
    slots_are = a.slots_are;
    posted_is = a.posted_is;
    consumed_is = rw other a.consumed_is;
    fits = a.fits;
  }

  pub cq_head : (cq slot : ℕ) → cq ≡ q → slot < slots → taken + gap slots (taken % slots) slot ≤ many → CqAgrees start log q slots many taken
      → CqAgrees start (Head cq slot ∷ log) q slots many (taken + gap slots (taken % slots) slot)
  cq_head cq slot own below fits a =
      let same : slots_of a.qsize ≡ slots = a.slots_are (omega (arith, below)) in
      record {
        qsize = a.qsize;
        qsize_is = a.qsize_is;
        slots_are = a.slots_are;
        posted_is = a.posted_is;
        consumed_is =
            rw (eq-eqb cq q own, ap (λ (o : Option ℕ). advanced_where_open o (consumed start log q) slot) a.qsize_is, a.consumed_is)
            (ap (λ (n : ℕ). taken + gap n (taken % n) slot) same);
        fits = fits;
      }

  pub cq_other_post : (cq : ℕ) (slot : Option ℕ) (completion : Completion) → turns_cq (done log completion) q ≡ false → (cq == q) ≡ false
      → CqAgrees start log q slots many taken → CqAgrees start (Post cq slot completion ∷ log) q slots many taken
  cq_other_post cq slot completion unturned other a = record {
    qsize = a.qsize;
    qsize_is = no_cq_turn (done log completion) q (qsize_of start log q) unturned ∙ a.qsize_is;
    slots_are = a.slots_are;
    posted_is = rw (unturned, other) a.posted_is;
    consumed_is = rw unturned a.consumed_is;
    fits = a.fits;
  }

  pub cq_post : (cq : ℕ) (slot : Option ℕ) (completion : Completion) → turns_cq (done log completion) q ≡ false → cq ≡ q
      → CqAgrees start log q slots many taken → CqAgrees start (Post cq slot completion ∷ log) q slots (many + 1) taken
  cq_post cq slot completion unturned own a = record {
    qsize = a.qsize;
    qsize_is = no_cq_turn (done log completion) q (qsize_of start log q) unturned ∙ a.qsize_is;
    slots_are = a.slots_are;
    posted_is = rw (unturned, eq-eqb cq q own) (ap (λ (n : ℕ). n + 1) a.posted_is);
    consumed_is = rw unturned a.consumed_is;
    fits = (let few : taken ≤ many = a.fits in omega (arith, few));
  }
