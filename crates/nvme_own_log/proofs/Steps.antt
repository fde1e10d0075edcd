-- Note by note, what is shown of a queue agrees with the queue's own side.
use Rattle.std.proofs.Common.{◌≡◌, ℕ, ◌+◌, ◌%◌, ◌<◌, ◌≤◌, ◌==◌, ◌&&◌, ◌||◌, Bool, true, false, if◌then◌else◌, List, [], ◌∷◌, ◌++◌, length, Option, Some, None, is_some, refl, sym, ap, ◌∙◌, subst, inl, inr, eqb-true}
use Rattle.std.specs.Prelude.{slice_get}
use Rattle.std.proofs.lemmas.Bool.{cases_eq, and_parts, or_parts, eq-eqb, ne_eqb, false_from_ne_true}
use Rattle.std.proofs.lemmas.Option.{none-some, same_Some}
use Rattle.std.proofs.lemmas.List.{length_push}
use Rattle.nvme_entry.specs.AdminCommand.{admin_command_of}
use Rattle.nvme_entry.specs.declared.submission.Sqe.{Sqe}
use Rattle.nvme_entry.specs.declared.completion.Cqe.{Cqe}
use Rattle.nvme_log.specs.declared.event.Event.TheVariants.{Fetch, Post}
use Rattle.nvme_log.specs.Rules.{FrontRules}
use Rattle.nvme_log.specs.Queues.{qid_of_region}
use Rattle.nvme_log.specs.Places.{fetched}
use Rattle.nvme_log.specs.Completions.{is_posted, posted_to}
use Rattle.nvme_ctrl_log.specs.Notes.{Notes, Note, Logged, Tail, Head, EachNote, logged}
use Rattle.nvme_ctrl_log.specs.Doorbells.{gap, sq_slots, cq_slots, submitted, consumed}
use Rattle.nvme_ctrl_log.specs.Account.{IsLawful}
use Rattle.nvme_audit.specs.Lives.{turns_sq, asked, done}
use Rattle.nvme_audit.specs.Queues.{turns_cq}
use Rattle.nvme_own_log.specs.Shown.{cqid_of_region, start_of, completion_of, tail_of, head_of, fetch_of, post_of, shown}
use Rattle.nvme_own_log.specs.Duties.{NamesAreFree}
use Rattle.nvme_own_log.proofs.Agreeing.{SqAgrees, CqAgrees, sq_other_tail, sq_head, sq_other_fetch, sq_tail, sq_fetch, sq_post, sq_fewer, sq_names, cq_tail, cq_fetch, cq_other_head, cq_head, cq_other_post, cq_post}
use Rattle.nvme_own_log.proofs.Answered.{IsPosted, posted_so}

module _ (rules : FrontRules) where
  -- ---- submission queues
  -- what is shown of a queue agrees with its region
  abbrev pub SqAt : Notes → (q r cqid : ℕ) → Type 0
  SqAt notes q r cqid =
      SqAgrees (start_of rules) (shown rules notes) q (sq_slots rules r) cqid (submitted rules notes r) (fetched (logged notes) r) (λ i. is_posted (logged notes) r i)

  -- a note of the region of a queue with this identifier is of this region
  abbrev pub IsOfRegion : Notes → (q r : ℕ) → Note → Type 0
  IsOfRegion notes q r (Tail s slot) = qid_of_region (logged notes) s ≡ Some q → s ≡ r
  IsOfRegion notes q r (Logged (Fetch s i entry)) = qid_of_region (logged notes) s ≡ Some q → s ≡ r
  IsOfRegion notes q r (Logged (Post c s i cqe)) = qid_of_region (logged notes) s ≡ Some q → s ≡ r
  IsOfRegion notes q r note = Unit {0}

  -- a note neither opens nor closes the queue to the judge
  abbrev pub LeavesSq : Notes → ℕ → Note → Type 0
  LeavesSq notes q (Logged (Post c s i cqe)) = turns_sq (done (shown rules notes) (completion_of cqe)) q ≡ false
  LeavesSq notes q note = Unit {0}

  module _ (notes : Notes) (h : EachNote (IsLawful rules) notes) (q r cqid : ℕ) (owned : qid_of_region (logged notes) r ≡ Some q) (a : SqAt notes q r cqid) where
    -- the region of another queue is another
    apart : (s p : ℕ) → qid_of_region (logged notes) s ≡ Some p → (p ≡ q → ⊥) → s ≡ r → ⊥
    apart s p is other same = other (same_Some p q (sym is ∙ ap (qid_of_region (logged notes)) same ∙ owned))

    unowned : (s : ℕ) → qid_of_region (logged notes) s ≡ None → s ≡ r → ⊥
    unowned s is same = none-some q (sym is ∙ ap (qid_of_region (logged notes)) same ∙ owned)

    abbrev TailAfter : (slot : ℕ) → Option ℕ → ℕ → Type 0
    TailAfter slot o many = SqAgrees (start_of rules) (tail_of o slot (shown rules notes)) q (sq_slots rules r) cqid many (fetched (logged notes) r) (λ i. is_posted (logged notes) r i)

    abbrev tail_next : (slot : ℕ) → ℕ
    tail_next slot = submitted rules notes r + gap (sq_slots rules r) (submitted rules notes r % sq_slots rules r) slot

    at_tail : (s slot : ℕ) → IsLawful rules notes (Tail s slot) → IsOfRegion notes q r (Tail s slot) → SqAt (Tail s slot ∷ notes) q r cqid
    at_tail s slot it own = by (qid_of_region (logged notes) s) refl where
      mine : (p : ℕ) → p ≡ q → s ≡ r → TailAfter slot (Some p) (if s == r then (tail_next slot) else submitted rules notes r)
      mine p is same =
          let below : slot < sq_slots rules r = subst (λ (k : ℕ). slot < sq_slots rules k) same it.is_slot in
          let fits : submitted rules (Tail r slot ∷ notes) r < length (fetched (logged notes) r) + sq_slots rules r = subst (λ (k : ℕ). submitted rules (Tail k slot ∷ notes) k < length (fetched (logged notes) k) + sq_slots rules k) same it.fits in
          let near : (tail_next slot) < length (fetched (logged notes) r) + sq_slots rules r = subst (λ (b : Bool). (if b then (tail_next slot) else submitted rules notes r) < length (fetched (logged notes) r) + sq_slots rules r) (eq-eqb r r refl) fits in
          subst (λ (b : Bool). TailAfter slot (Some p) (if b then (tail_next slot) else submitted rules notes r)) (sym (eq-eqb s r same))
          (sq_tail (start_of rules) (shown rules notes) q (sq_slots rules r) cqid (submitted rules notes r) (fetched (logged notes) r) (λ i. is_posted (logged notes) r i) p slot is below near a)

      by : (o : Option ℕ) → qid_of_region (logged notes) s ≡ o → TailAfter slot o (if s == r then (tail_next slot) else submitted rules notes r)
      by None is = subst (λ (b : Bool). TailAfter slot None (if b then (tail_next slot) else submitted rules notes r)) (sym (ne_eqb s r (unowned s is))) a
      by (Some p) is = elim (cases_eq p q) [
        | inl same ↦ mine p same (own (is ∙ ap (λ (k : ℕ). Some k) same))
        | inr other ↦ subst (λ (b : Bool). TailAfter slot (Some p) (if b then (tail_next slot) else submitted rules notes r)) (sym (ne_eqb s r (apart s p is other)))
            (sq_other_tail (start_of rules) (shown rules notes) q (sq_slots rules r) cqid (submitted rules notes r) (fetched (logged notes) r) (λ i. is_posted (logged notes) r i) p slot (ne_eqb p q other) a)
      ]

    abbrev FetchAfter : (s i : ℕ) (entry : Sqe) → Option ℕ → List Sqe → Type 0
    FetchAfter s i entry o entries = SqAgrees (start_of rules) (fetch_of o (i % sq_slots rules s) entry (shown rules notes)) q (sq_slots rules r) cqid (submitted rules notes r) entries (λ k. is_posted (logged notes) r k)

    abbrev fetch_next : (s i : ℕ) (entry : Sqe) → List Sqe
    fetch_next s i entry = fetched (logged notes) r ++ entry ∷ []

    at_fetch : (s i : ℕ) (entry : Sqe) → IsLawful rules notes (Logged (Fetch s i entry)) → IsOfRegion notes q r (Logged (Fetch s i entry)) → NamesAreFree (shown rules (Logged (Fetch s i entry) ∷ notes)) → SqAt (Logged (Fetch s i entry) ∷ notes) q r cqid
    at_fetch s i entry it own = by (qid_of_region (logged notes) s) refl where
      by : (o : Option ℕ) → qid_of_region (logged notes) s ≡ o → NamesAreFree (fetch_of o (i % sq_slots rules s) entry (shown rules notes)) → FetchAfter s i entry o (if s == r then (fetch_next s i entry) else fetched (logged notes) r)
      by None is free = subst (λ (b : Bool). FetchAfter s i entry None (if b then (fetch_next s i entry) else fetched (logged notes) r)) (sym (ne_eqb s r (unowned s is))) a
      by (Some p) is free = elim (cases_eq p q) [
        | inl same ↦ subst (λ (b : Bool). FetchAfter s i entry (Some p) (if b then (fetch_next s i entry) else fetched (logged notes) r)) (sym (eq-eqb s r (own (is ∙ ap (λ (k : ℕ). Some k) same))))
            (sq_fetch (start_of rules) (shown rules notes) q (sq_slots rules r) cqid (submitted rules notes r) (fetched (logged notes) r) (λ k. is_posted (logged notes) r k) p (Some (i % sq_slots rules s)) entry same
            (subst (λ (k : ℕ). length (fetched (logged notes) k) < submitted rules notes k) (own (is ∙ ap (λ (k : ℕ). Some k) same)) it.fetches_submitted)
            (subst (λ (k : ℕ). is_some (asked (shown rules notes) k entry.cid) ≡ false) same free.0) a)
        | inr other ↦ subst (λ (b : Bool). FetchAfter s i entry (Some p) (if b then (fetch_next s i entry) else fetched (logged notes) r)) (sym (ne_eqb s r (apart s p is other)))
            (sq_other_fetch (start_of rules) (shown rules notes) q (sq_slots rules r) cqid (submitted rules notes r) (fetched (logged notes) r) (λ k. is_posted (logged notes) r k) p entry.cid (Some (i % sq_slots rules s)) (admin_command_of entry) (ne_eqb p q other) a)
      ]

    abbrev posted_then : (c s i : ℕ) (cqe : Cqe) → ℕ → Bool
    posted_then c s i cqe k = (s == r && i == k) || is_posted (logged notes) r k

    abbrev PostAfter : (c s i : ℕ) (cqe : Cqe) → Option ℕ → Type 0
    PostAfter c s i cqe o = SqAgrees (start_of rules) (post_of o (length (posted_to (logged notes) c) % cq_slots rules c) cqe (shown rules notes)) q (sq_slots rules r) cqid (submitted rules notes r) (fetched (logged notes) r) (posted_then c s i cqe)

    at_post : (c s i : ℕ) (cqe : Cqe) → IsLawful rules notes (Logged (Post c s i cqe)) → IsOfRegion notes q r (Logged (Post c s i cqe)) → LeavesSq notes q (Logged (Post c s i cqe)) → SqAt (Logged (Post c s i cqe) ∷ notes) q r cqid
    at_post c s i cqe it own unturned = by (cqid_of_region (logged notes) c) where
      posted : IsPosted rules notes c s i cqe
      posted = posted_so rules notes c s i cqe h it.posts_own

      leaves : (k : ℕ) (entry : Sqe) → slice_get (fetched (logged notes) r) k ≡ Some entry → (posted_then c s i cqe) k ≡ false → (is_posted (logged notes) r k ≡ false) × ((cqe.sqid == q && cqe.cid == entry.cid) ≡ false)
      leaves k entry at fresh =
          let parts = or_parts (s == r && i == k) (is_posted (logged notes) r k) fresh in (
            parts.1,
            false_from_ne_true (cqe.sqid == q && cqe.cid == entry.cid) (λ named.
                let names = and_parts (cqe.sqid == q) (cqe.cid == entry.cid) named in
                let same : s ≡ r = own (posted.sqid ∙ ap (λ (z : ℕ). Some z) (eqb-true cqe.sqid q names.0)) in
                let one : i ≡ k = sq_names (start_of rules) (shown rules notes) q (sq_slots rules r) cqid (submitted rules notes r) (fetched (logged notes) r) (λ z. is_posted (logged notes) r z) i k posted.entry entry
                (subst (λ (z : ℕ). slice_get (fetched (logged notes) z) i ≡ Some posted.entry) same posted.is_there) at
                (subst (λ (z : ℕ). is_posted (logged notes) z i ≡ false) same posted.no_post) parts.1
                (sym posted.cid ∙ eqb-true cqe.cid entry.cid names.1) a in
                let yes : (s == r && i == k) ≡ true = rw (eq-eqb s r same, eq-eqb i k one) refl in
                cc (yes, parts.0)),
          )

      by : (o : Option ℕ) → PostAfter c s i cqe o
      by None = sq_fewer (start_of rules) (shown rules notes) q (sq_slots rules r) cqid (submitted rules notes r) (fetched (logged notes) r) (λ z. is_posted (logged notes) r z) (posted_then c s i cqe)
          (λ k fresh. (or_parts (s == r && i == k) (is_posted (logged notes) r k) fresh).1) a
      by (Some p) = sq_post (start_of rules) (shown rules notes) q (sq_slots rules r) cqid (submitted rules notes r) (fetched (logged notes) r) (λ z. is_posted (logged notes) r z) p
          (Some (length (posted_to (logged notes) c) % cq_slots rules c)) (completion_of cqe) (posted_then c s i cqe) unturned leaves a

    at_head : (c slot : ℕ) → SqAt (Head c slot ∷ notes) q r cqid
    at_head c slot = by (cqid_of_region (logged notes) c) where
      by : (o : Option ℕ) → SqAgrees (start_of rules) (head_of o slot (shown rules notes)) q (sq_slots rules r) cqid (submitted rules notes r) (fetched (logged notes) r) (λ i. is_posted (logged notes) r i)
      by None = a
      by (Some p) = sq_head (start_of rules) (shown rules notes) q (sq_slots rules r) cqid (submitted rules notes r) (fetched (logged notes) r) (λ i. is_posted (logged notes) r i) p slot a

    pub sq_step : (note : Note) → IsLawful rules notes note → IsOfRegion notes q r note → LeavesSq notes q note → NamesAreFree (shown rules (note ∷ notes)) → SqAt (note ∷ notes) q r cqid
    sq_step (Tail s slot) it own leaves free = at_tail s slot it own
    sq_step (Head c slot) it own leaves free = at_head c slot
    sq_step (Logged (Fetch s i entry)) it own leaves free = at_fetch s i entry it own free
    sq_step (Logged (Post c s i cqe)) it own leaves free = at_post c s i cqe it own leaves
    sq_step (Logged e) it own leaves free = a
    sq_step note it own leaves free = a

  -- ---- completion queues
  abbrev pub CqAt : Notes → (q c : ℕ) → Type 0
  CqAt notes q c = CqAgrees (start_of rules) (shown rules notes) q (cq_slots rules c) (length (posted_to (logged notes) c)) (consumed rules notes c)

  abbrev pub IsOfCqRegion : Notes → (q c : ℕ) → Note → Type 0
  IsOfCqRegion notes q c (Head s slot) = cqid_of_region (logged notes) s ≡ Some q → s ≡ c
  IsOfCqRegion notes q c (Logged (Post s r i cqe)) = cqid_of_region (logged notes) s ≡ Some q → s ≡ c
  IsOfCqRegion notes q c note = Unit {0}

  abbrev pub LeavesCq : Notes → ℕ → Note → Type 0
  LeavesCq notes q (Logged (Post c s i cqe)) = turns_cq (done (shown rules notes) (completion_of cqe)) q ≡ false
  LeavesCq notes q note = Unit {0}

  module _ (notes : Notes) (q c : ℕ) (owned : cqid_of_region (logged notes) c ≡ Some q) (a : CqAt notes q c) where
    cq_apart : (s p : ℕ) → cqid_of_region (logged notes) s ≡ Some p → (p ≡ q → ⊥) → s ≡ c → ⊥
    cq_apart s p is other same = other (same_Some p q (sym is ∙ ap (cqid_of_region (logged notes)) same ∙ owned))

    cq_unowned : (s : ℕ) → cqid_of_region (logged notes) s ≡ None → s ≡ c → ⊥
    cq_unowned s is same = none-some q (sym is ∙ ap (cqid_of_region (logged notes)) same ∙ owned)

    abbrev HeadAfter : (slot : ℕ) → Option ℕ → ℕ → Type 0
    HeadAfter slot o taken = CqAgrees (start_of rules) (head_of o slot (shown rules notes)) q (cq_slots rules c) (length (posted_to (logged notes) c)) taken

    abbrev head_next : (slot : ℕ) → ℕ
    head_next slot = consumed rules notes c + gap (cq_slots rules c) (consumed rules notes c % cq_slots rules c) slot

    cq_at_head : (s slot : ℕ) → IsLawful rules notes (Head s slot) → IsOfCqRegion notes q c (Head s slot) → CqAt (Head s slot ∷ notes) q c
    cq_at_head s slot it own = by (cqid_of_region (logged notes) s) refl where
      mine : (p : ℕ) → p ≡ q → s ≡ c → HeadAfter slot (Some p) (if s == c then (head_next slot) else consumed rules notes c)
      mine p is same =
          let below : slot < cq_slots rules c = subst (λ (k : ℕ). slot < cq_slots rules k) same it.is_slot in
          let fits : consumed rules (Head c slot ∷ notes) c ≤ length (posted_to (logged notes) c) = subst (λ (k : ℕ). consumed rules (Head k slot ∷ notes) k ≤ length (posted_to (logged notes) k)) same it.posted in
          let near : (head_next slot) ≤ length (posted_to (logged notes) c) = subst (λ (b : Bool). (if b then (head_next slot) else consumed rules notes c) ≤ length (posted_to (logged notes) c)) (eq-eqb c c refl) fits in
          subst (λ (b : Bool). HeadAfter slot (Some p) (if b then (head_next slot) else consumed rules notes c)) (sym (eq-eqb s c same))
          (cq_head (start_of rules) (shown rules notes) q (cq_slots rules c) (length (posted_to (logged notes) c)) (consumed rules notes c) p slot is below near a)

      by : (o : Option ℕ) → cqid_of_region (logged notes) s ≡ o → HeadAfter slot o (if s == c then (head_next slot) else consumed rules notes c)
      by None is = subst (λ (b : Bool). HeadAfter slot None (if b then (head_next slot) else consumed rules notes c)) (sym (ne_eqb s c (cq_unowned s is))) a
      by (Some p) is = elim (cases_eq p q) [
        | inl same ↦ mine p same (own (is ∙ ap (λ (k : ℕ). Some k) same))
        | inr other ↦ subst (λ (b : Bool). HeadAfter slot (Some p) (if b then (head_next slot) else consumed rules notes c)) (sym (ne_eqb s c (cq_apart s p is other)))
            (cq_other_head (start_of rules) (shown rules notes) q (cq_slots rules c) (length (posted_to (logged notes) c)) (consumed rules notes c) p slot (ne_eqb p q other) a)
      ]

    abbrev CqPostAfter : (s : ℕ) (cqe : Cqe) → Option ℕ → List Cqe → Type 0
    CqPostAfter s cqe o posts = CqAgrees (start_of rules) (post_of o (length (posted_to (logged notes) s) % cq_slots rules s) cqe (shown rules notes)) q (cq_slots rules c) (length posts) (consumed rules notes c)

    abbrev posts_before : List Cqe
    posts_before = posted_to (logged notes) c

    cq_at_post : (s r i : ℕ) (cqe : Cqe) → IsOfCqRegion notes q c (Logged (Post s r i cqe)) → LeavesCq notes q (Logged (Post s r i cqe)) → CqAt (Logged (Post s r i cqe) ∷ notes) q c
    cq_at_post s r i cqe own unturned = by (cqid_of_region (logged notes) s) refl where
      by : (o : Option ℕ) → cqid_of_region (logged notes) s ≡ o → CqPostAfter s cqe o (if s == c then posts_before ++ cqe ∷ [] else posts_before)
      by None is = subst (λ (b : Bool). CqPostAfter s cqe None (if b then posts_before ++ cqe ∷ [] else posts_before)) (sym (ne_eqb s c (cq_unowned s is))) a
      by (Some p) is = elim (cases_eq p q) [
        | inl same ↦ subst (λ (b : Bool). CqPostAfter s cqe (Some p) (if b then posts_before ++ cqe ∷ [] else posts_before)) (sym (eq-eqb s c (own (is ∙ ap (λ (k : ℕ). Some k) same))))
            (subst (λ (n : ℕ). CqAgrees (start_of rules) (post_of (Some p) (length (posted_to (logged notes) s) % cq_slots rules s) cqe (shown rules notes)) q (cq_slots rules c) n (consumed rules notes c)) (sym (length_push posts_before cqe))
            (cq_post (start_of rules) (shown rules notes) q (cq_slots rules c) (length posts_before) (consumed rules notes c) p (Some (length (posted_to (logged notes) s) % cq_slots rules s)) (completion_of cqe) unturned same a))
        | inr other ↦ subst (λ (b : Bool). CqPostAfter s cqe (Some p) (if b then posts_before ++ cqe ∷ [] else posts_before)) (sym (ne_eqb s c (cq_apart s p is other)))
            (cq_other_post (start_of rules) (shown rules notes) q (cq_slots rules c) (length posts_before) (consumed rules notes c) p (Some (length (posted_to (logged notes) s) % cq_slots rules s)) (completion_of cqe) unturned (ne_eqb p q other) a)
      ]

    cq_at_tail : (s slot : ℕ) → CqAt (Tail s slot ∷ notes) q c
    cq_at_tail s slot = by (qid_of_region (logged notes) s) where
      by : (o : Option ℕ) → CqAgrees (start_of rules) (tail_of o slot (shown rules notes)) q (cq_slots rules c) (length (posted_to (logged notes) c)) (consumed rules notes c)
      by None = a
      by (Some p) = cq_tail (start_of rules) (shown rules notes) q (cq_slots rules c) (length (posted_to (logged notes) c)) (consumed rules notes c) p slot a

    cq_at_fetch : (s i : ℕ) (entry : Sqe) → CqAt (Logged (Fetch s i entry) ∷ notes) q c
    cq_at_fetch s i entry = by (qid_of_region (logged notes) s) where
      by : (o : Option ℕ) → CqAgrees (start_of rules) (fetch_of o (i % sq_slots rules s) entry (shown rules notes)) q (cq_slots rules c) (length (posted_to (logged notes) c)) (consumed rules notes c)
      by None = a
      by (Some p) = cq_fetch (start_of rules) (shown rules notes) q (cq_slots rules c) (length (posted_to (logged notes) c)) (consumed rules notes c) p entry.cid (Some (i % sq_slots rules s)) (admin_command_of entry) a

    pub cq_step : (note : Note) → IsLawful rules notes note → IsOfCqRegion notes q c note → LeavesCq notes q note → CqAt (note ∷ notes) q c
    cq_step (Head s slot) it own leaves = cq_at_head s slot it own
    cq_step (Tail s slot) it own leaves = cq_at_tail s slot
    cq_step (Logged (Fetch s i entry)) it own leaves = cq_at_fetch s i entry
    cq_step (Logged (Post s r i cqe)) it own leaves = cq_at_post s r i cqe own leaves
    cq_step (Logged e) it own leaves = a
    cq_step note it own leaves = a
