-- How each step changes the queues of a log and of what is kept.
use Rattle.std.proofs.Common.{◌≡◌, ℕ, ◌≤◌, ◌<◌, ◌==◌, ◌||◌, ◌-◌, Bool, false, if◌then◌else◌, [], length, Option, Some, None, refl, sym, ◌∙◌, ap, subst, inl, inr, arith, true≢false}
use Rattle.std.specs.Prelude.{option_map, slice_set, unwrap_or}
use Rattle.std.proofs.lemmas.Bool.{cases_eq, eq-eqb, ne_eqb}
use Rattle.std.proofs.lemmas.List.{length-set}
use Rattle.std.proofs.lemmas.Option.{none-some}
use Rattle.nvme_arbiter.specs.Limits.{highest_qid}
use Rattle.nvme_arbiter.specs.declared.pick.OpenQueue.{OpenQueue}
use Rattle.nvme_arbiter.specs.declared.settings.Class.{Class}
use Rattle.nvme_ctrl_content.specs.Content.{PendingDelete, Attachment, SqContent, put_sq, put_held, put_class, put_deletion}
use Rattle.nvme_log.specs.Queues.{Queue}
use Rattle.nvme_ctrl_content.specs.Standing.{IsGone, IsOpenedFor}
use Rattle.nvme_ctrl_content.proofs.QueueWords.{LogQueues, QueueContent, with_count, counted, OpenedFor, IsBlank, Agree, put-queue, one_queue, on_others, as_others, on_same, on_board-set}
use Rattle.nvme_ctrl_log.proofs.QueueWords.{at_same, at_other, chosen}
use Rattle.nvme_ctrl_content.proofs.DeletingRegions.{Here, Elsewhere, is_put}

-- a region that was opened for no queue isn't one that was
unopened_apart : (sq : ℕ → SqContent) (r x q : ℕ) → OpenedFor (sq r) q → (sq x).queue ≡ None → x ≡ r → ⊥
unopened_apart sq r x q opened none e = none-some _ (sym none ∙ ap (λ (z : ℕ). (sq z).queue) e ∙ opened.opened)

-- what is said of a region is said where another is put
put_elsewhere : (P : SqContent → Type 0) (sq : ℕ → SqContent) (r : ℕ) (s : SqContent) (x : ℕ) → (x ≡ r → ⊥) → P (sq x) → P (put_sq sq r s x)
put_elsewhere P sq r s x n h = subst P (sym (at_other x r s (sq x) n)) h

-- what is said of what is put is said at its region
put_here : (P : SqContent → Type 0) (sq : ℕ → SqContent) (r : ℕ) (s : SqContent) (x : ℕ) → x ≡ r → P s → P (put_sq sq r s x)
put_here P sq r s x e h = subst P (sym (at_same x r s (sq x) e)) h

-- a region that keeps its queue was opened for what it was
still_opened : (sq : ℕ → SqContent) (r : ℕ) (s : SqContent) (x q : ℕ) → s.queue ≡ (sq r).queue → OpenedFor (sq x) q → OpenedFor (put_sq sq r s x) q
still_opened sq r s x q e h = record { cq_region = h.cq_region; opened = put-queue sq r s e x ∙ h.opened }

-- so was the region of a deletion
still_opened_for : (sq : ℕ → SqContent) (r : ℕ) (s : SqContent) (d : PendingDelete) → s.queue ≡ (sq r).queue → IsOpenedFor sq d → IsOpenedFor (put_sq sq r s) d
still_opened_for sq r s d e h = record { cq_region = h.cq_region; opened = put-queue sq r s e d.region ∙ h.opened }

-- what a region was opened for
abbrev opened_by : ℕ → ℕ → Attachment
opened_by q c = record { qid = q; cq_region = c }

-- the region of a queue, and 0 of none
abbrev region_in : Option Queue → ℕ
region_in None = 0
region_in (Some queue) = queue.region

module _ (l : LogQueues) (k : QueueContent) (h : Agree l k) where
  -- the identifier of an open queue is on the board
  on_board : (q : ℕ) → q ≤ highest_qid → q < length k.board
  on_board q few = omega (arith, h.board_size, few)

  -- two open queues have two regions
  pub apart_queues : (q p : ℕ) (queue other : Queue) → l.sqs q ≡ Some queue → l.sqs p ≡ Some other → (p ≡ q → ⊥) → other.region ≡ queue.region → ⊥
  apart_queues q p queue other is is_other n e =
      n (one_queue (k.sq queue.region) p q (subst (λ (z : ℕ). OpenedFor (k.sq z) p) e (h.attached p other is_other)) (h.attached q queue is))

  -- the candidates of an open queue change, on the board too
  pub serve : (q : ℕ) (queue : Queue) (s : SqContent) → l.sqs q ≡ Some queue → s.queue ≡ (k.sq queue.region).queue
      → Agree l (record k { sq = put_sq k.sq queue.region s; board = slice_set k.board q (Some (with_count k.held k.classed queue (length s.window))) })
  serve q queue s is same =
      let here : OpenedFor (k.sq queue.region) q = h.attached q queue is in
      let entry : OpenQueue = with_count k.held k.classed queue (length s.window) in
      let later : ℕ → SqContent = put_sq k.sq queue.region s in
      record {
        board = on_board-set k.board q (Some entry) (λ (p : ℕ). option_map (counted k.held k.classed later) (l.sqs p)) (on_board q (h.few q queue is))
            (rw (is, eq-eqb queue.region queue.region refl) refl)
            (λ p n. h.board p ∙ on_others k.held k.classed k.sq queue.region s (l.sqs p) (λ other is_other. apart_queues q p queue other is is_other n));
        board_size = length-set k.board q (Some entry) ∙ h.board_size;
        few = h.few;
        cq_there = h.cq_there;
        qid_is = λ r. h.qid_is r ∙ ap (option_map (λ (a : Attachment). a.qid)) (sym (put-queue k.sq queue.region s same r));
        cq_region_is = λ r. h.cq_region_is r ∙ ap (option_map (λ (a : Attachment). a.cq_region)) (sym (put-queue k.sq queue.region s same r));
        attached = λ p other is_other. still_opened k.sq queue.region s other.region p same (h.attached p other is_other);
        sq_there = λ r a e. h.sq_there r a (sym (put-queue k.sq queue.region s same r) ∙ e);
        posts_there = λ r a e. h.posts_there r a (sym (put-queue k.sq queue.region s same r) ∙ e);
        unopened = λ r e.
            let none : (k.sq r).queue ≡ None = sym (put-queue k.sq queue.region s same r) ∙ e in
            put_elsewhere (IsBlank l.closed r) k.sq queue.region s r (unopened_apart k.sq queue.region r q here none) (h.unopened r none);
        gone = λ r e. put_elsewhere IsGone k.sq queue.region s r (λ p. h.closed q r queue e is (sym p)) (h.gone r e);
        closed = h.closed;
        deleting = λ r d e. still_opened_for k.sq queue.region s d same (h.deleting r d e);
      }

  -- an open queue is held or not, and in another class, on the board too
  pub arrange : (q : ℕ) (queue : Queue) (on : Bool) (class : Option Class) → l.sqs q ≡ Some queue
      → Agree l (record k {
        board = slice_set k.board q (Some (counted (put_held k.held queue.region on) (put_class k.classed queue.region class) k.sq queue));
        held = put_held k.held queue.region on;
        classed = put_class k.classed queue.region class;
      })
  arrange q queue on class is =
      let held : ℕ → Bool = put_held k.held queue.region on in
      let classed : ℕ → Option Class = put_class k.classed queue.region class in
      let entry : OpenQueue = counted held classed k.sq queue in
      record {
        board = on_board-set k.board q (Some entry) (λ (p : ℕ). option_map (counted held classed k.sq) (l.sqs p)) (on_board q (h.few q queue is))
            (ap (option_map (counted held classed k.sq)) (sym is))
            (λ p n. h.board p ∙ as_others k.held k.classed k.sq queue.region on class (l.sqs p) (λ other is_other. apart_queues q p queue other is is_other n));
        board_size = length-set k.board q (Some entry) ∙ h.board_size;
        few = h.few;
        cq_there = h.cq_there;
        qid_is = h.qid_is;
        cq_region_is = h.cq_region_is;
        attached = h.attached;
        sq_there = h.sq_there;
        posts_there = h.posts_there;
        unopened = h.unopened;
        gone = h.gone;
        closed = h.closed;
        deleting = h.deleting;
      }

  -- a completion of a region is posted
  pub post : (r q : ℕ) → OpenedFor (k.sq r) q
      → Agree l (record k { sq = put_sq k.sq r (record (k.sq r) { unposted = (k.sq r).unposted - 1 }) })
  post r q here =
      let s : SqContent = record (k.sq r) { unposted = (k.sq r).unposted - 1 } in
      record {
        board = λ p. h.board p ∙ on_same k.held k.classed k.sq r s (l.sqs p) refl;
        board_size = h.board_size;
        few = h.few;
        cq_there = h.cq_there;
        qid_is = λ x. h.qid_is x ∙ ap (option_map (λ (a : Attachment). a.qid)) (sym (put-queue k.sq r s refl x));
        cq_region_is = λ x. h.cq_region_is x ∙ ap (option_map (λ (a : Attachment). a.cq_region)) (sym (put-queue k.sq r s refl x));
        attached = λ p other is_other. still_opened k.sq r s other.region p refl (h.attached p other is_other);
        sq_there = λ x a e. h.sq_there x a (sym (put-queue k.sq r s refl x) ∙ e);
        posts_there = λ x a e. h.posts_there x a (sym (put-queue k.sq r s refl x) ∙ e);
        unopened = λ x e.
            let none : (k.sq x).queue ≡ None = sym (put-queue k.sq r s refl x) ∙ e in
            put_elsewhere (IsBlank l.closed x) k.sq r s x (unopened_apart k.sq r x q here none) (h.unopened x none);
        gone = λ x e. elim (cases_eq x r) [
          | inl p ↦
              let was : IsGone (k.sq r) = h.gone r (ap l.closed (sym p) ∙ e) in
              put_here IsGone k.sq r s x p (record { all_posted = ap (λ (n : ℕ). n - 1) was.all_posted; none_waits = was.none_waits })
          | inr n ↦ put_elsewhere IsGone k.sq r s x n (h.gone x e)
        ];
        closed = h.closed;
        deleting = λ x d e. still_opened_for k.sq r s d refl (h.deleting x d e);
      }

  -- a queue is opened on a region that was opened for none
  pub open_one : (qid region cqid c : ℕ) (class : Class) → (k.sq region).queue ≡ None → l.cqs cqid ≡ Some c → region < k.nsq → qid ≤ highest_qid
      → Agree
      (record l {
        sqs = λ q. if qid == q then Some (record { region = region; cqid = cqid; class = class }) else l.sqs q;
        qids = λ r. if region == r then Some qid else l.qids r;
        cq_regions = λ r. if region == r then l.cqs cqid else l.cq_regions r;
      })
      (record k {
        sq = put_sq k.sq region (record (k.sq region) { queue = Some (record { qid = qid; cq_region = c }) });
        board = slice_set k.board qid (Some (record { class = class; count = 0 }));
        held = put_held k.held region false;
        classed = put_class k.classed region None;
      })
  open_one qid region cqid c class none cq there few =
      let blank : IsBlank l.closed region (k.sq region) = h.unopened region none in
      let attachment : Attachment = record { qid = qid; cq_region = c } in
      let s : SqContent = record (k.sq region) { queue = Some attachment } in
      let queue : Queue = record { region = region; cqid = cqid; class = class } in
      let sqs : ℕ → Option Queue = λ q. if qid == q then Some queue else l.sqs q in
      let held : ℕ → Bool = put_held k.held region false in
      let classed : ℕ → Option Class = put_class k.classed region None in
      let others : (q : ℕ) (other : Queue) → l.sqs q ≡ Some other → other.region ≡ region → ⊥ =
      λ q other is e. unopened_apart k.sq other.region region q (h.attached q other is) none (sym e) in
      record {
        board = on_board-set k.board qid (Some (record { class = class; count = 0 })) (λ (p : ℕ). option_map (counted held classed (put_sq k.sq region s)) (sqs p)) (on_board qid few)
            (rw (eq-eqb qid qid refl, eq-eqb region region refl, blank.none_waits) refl)
            (λ p n. h.board p ∙ on_others k.held k.classed k.sq region s (l.sqs p) (others p)
            ∙ as_others k.held k.classed (put_sq k.sq region s) region false None (l.sqs p) (others p)
            ∙ ap (option_map (counted held classed (put_sq k.sq region s))) (sym (at_other qid p (Some queue) (l.sqs p) (λ e. n (sym e)))));
        board_size = length-set k.board qid (Some (record { class = class; count = 0 })) ∙ h.board_size;
        few = λ q other is. elim (chosen qid q (Some queue) (l.sqs q) other is) [
          | inl p ↦ subst (λ (z : ℕ). z ≤ highest_qid) p.0 few
          | inr n ↦ h.few q other n.1
        ];
        cq_there = h.cq_there;
        qid_is = λ r. elim (cases_eq r region) [
          | inl p ↦ at_same region r (Some qid) (l.qids r) (sym p) ∙ ap (λ (z : SqContent). option_map (λ (a : Attachment). a.qid) z.queue) (sym (at_same r region s (k.sq r) p))
          | inr n ↦ at_other region r (Some qid) (l.qids r) (λ e. n (sym e)) ∙ h.qid_is r
              ∙ ap (λ (z : SqContent). option_map (λ (a : Attachment). a.qid) z.queue) (sym (at_other r region s (k.sq r) n))
        ];
        cq_region_is = λ r. elim (cases_eq r region) [
          | inl p ↦ at_same region r (l.cqs cqid) (l.cq_regions r) (sym p) ∙ cq
              ∙ ap (λ (z : SqContent). option_map (λ (a : Attachment). a.cq_region) z.queue) (sym (at_same r region s (k.sq r) p))
          | inr n ↦ at_other region r (l.cqs cqid) (l.cq_regions r) (λ e. n (sym e)) ∙ h.cq_region_is r
              ∙ ap (λ (z : SqContent). option_map (λ (a : Attachment). a.cq_region) z.queue) (sym (at_other r region s (k.sq r) n))
        ];
        attached = λ q other is. elim (chosen qid q (Some queue) (l.sqs q) other is) [
          | inl p ↦ put_here (λ (z : SqContent). OpenedFor z q) k.sq region s other.region (sym (ap region_in p.1))
              (record { cq_region = c; opened = ap (λ (z : ℕ). Some (opened_by z c)) p.0 })
          | inr n ↦ put_elsewhere (λ (z : SqContent). OpenedFor z q) k.sq region s other.region (others q other n.1) (h.attached q other n.1)
        ];
        sq_there = λ r a e. elim (cases_eq r region) [
          | inl p ↦ subst (λ (z : ℕ). z < k.nsq) (sym p) there
          | inr n ↦ h.sq_there r a (ap (λ (z : SqContent). z.queue) (sym (at_other r region s (k.sq r) n)) ∙ e)
        ];
        posts_there = λ r a e. elim (cases_eq r region) [
          | inl p ↦
              let is : Some attachment ≡ Some a = ap (λ (z : SqContent). z.queue) (sym (at_same r region s (k.sq r) p)) ∙ e in
              subst (λ (z : Attachment). z.cq_region < k.ncq) (ap (λ (o : Option Attachment). unwrap_or o attachment) is) (h.cq_there cqid c cq)
          | inr n ↦ h.posts_there r a (ap (λ (z : SqContent). z.queue) (sym (at_other r region s (k.sq r) n)) ∙ e)
        ];
        unopened = λ r e. elim (cases_eq r region) [
          | inl p ↦ absurd (none-some attachment (sym e ∙ ap (λ (z : SqContent). z.queue) (at_same r region s (k.sq r) p)))
          | inr n ↦ put_elsewhere (IsBlank l.closed r) k.sq region s r n (h.unopened r (ap (λ (z : SqContent). z.queue) (sym (at_other r region s (k.sq r) n)) ∙ e))
        ];
        gone = λ r e. put_elsewhere IsGone k.sq region s r (λ p. true≢false (sym e ∙ ap l.closed p ∙ blank.not_closed)) (h.gone r e);
        closed = λ q r other e is same. elim (chosen qid q (Some queue) (l.sqs q) other is) [
          | inl p ↦ true≢false (sym e ∙ ap l.closed (sym (ap region_in p.1 ∙ same)) ∙ blank.not_closed)
          | inr n ↦ h.closed q r other e n.1 same
        ];
        deleting = λ x d e.
            let was : IsOpenedFor k.sq d = h.deleting x d e in
            record {
              cq_region = was.cq_region;
              opened = put_elsewhere (λ (z : SqContent). z.queue ≡ Some (opened_by d.qid was.cq_region)) k.sq region s d.region
                  (λ p. none-some _ (sym none ∙ ap (λ (z : ℕ). (k.sq z).queue) (sym p) ∙ was.opened)) was.opened;
            };
      }

  -- a completion queue is opened
  pub open_other : (qid region : ℕ) → region < k.ncq → Agree (record l { cqs = λ q. if qid == q then Some region else l.cqs q }) k
  open_other qid region there = record {
    board = h.board;
    board_size = h.board_size;
    few = h.few;
    cq_there = λ q c e. elim (chosen qid q (Some region) (l.cqs q) c e) [
      | inl p ↦ subst (λ (z : ℕ). z < k.ncq) (ap (λ (o : Option ℕ). unwrap_or o region) p.1) there
      | inr n ↦ h.cq_there q c n.1
    ];
    qid_is = h.qid_is;
    cq_region_is = h.cq_region_is;
    attached = h.attached;
    sq_there = h.sq_there;
    posts_there = h.posts_there;
    unopened = h.unopened;
    gone = h.gone;
    closed = h.closed;
    deleting = h.deleting;
  }

  -- a completion queue is closed
  pub close_other : (qid : ℕ) → Agree (record l { cqs = λ q. if qid == q then None else l.cqs q }) k
  close_other qid = record {
    board = h.board;
    board_size = h.board_size;
    few = h.few;
    cq_there = λ q c e. elim (chosen qid q None (l.cqs q) c e) [
      | inl p ↦ absurd (none-some c p.1)
      | inr n ↦ h.cq_there q c n.1
    ];
    qid_is = h.qid_is;
    cq_region_is = h.cq_region_is;
    attached = h.attached;
    sq_there = h.sq_there;
    posts_there = h.posts_there;
    unopened = h.unopened;
    gone = h.gone;
    closed = h.closed;
    deleting = h.deleting;
  }

  -- the deletion of an open queue begins: no candidate of it is left
  pub begin_delete : (qid c n : ℕ) (queue : Queue) (d : PendingDelete) → l.sqs qid ≡ Some queue
      → (k.sq queue.region).queue ≡ Some (record { qid = qid; cq_region = c }) → d.qid ≡ qid → d.region ≡ queue.region
      → Agree (record l { sqs = λ q. if qid == q then None else l.sqs q })
      (record k {
        sq = put_sq k.sq queue.region (record (k.sq queue.region) { window = []; unposted = n });
        board = slice_set k.board qid None;
        deletion = put_deletion k.deletion queue.region (Some d);
      })
  begin_delete qid c n queue d is opened qid_is region_is =
      let s : SqContent = record (k.sq queue.region) { window = []; unposted = n } in
      let here : OpenedFor (k.sq queue.region) qid = record { cq_region = c; opened = opened } in
      let sqs : ℕ → Option Queue = λ q. if qid == q then None else l.sqs q in
      let later : ℕ → SqContent = put_sq k.sq queue.region s in
      let still : (q : ℕ) (other : Queue) → sqs q ≡ Some other → (q ≡ qid → ⊥) × (l.sqs q ≡ Some other) =
      λ q other e. elim (chosen qid q None (l.sqs q) other e) [
        | inl p ↦ absurd (none-some other p.1)
        | inr m ↦ ((λ p. m.0 (sym p)), m.1)
      ] in
      record {
        board = on_board-set k.board qid None (λ (p : ℕ). option_map (counted k.held k.classed later) (sqs p)) (on_board qid (h.few qid queue is))
            (rw (eq-eqb qid qid refl) refl)
            (λ p m. h.board p ∙ on_others k.held k.classed k.sq queue.region s (l.sqs p) (λ other is_other. apart_queues qid p queue other is is_other m)
            ∙ ap (option_map (counted k.held k.classed later)) (sym (at_other qid p None (l.sqs p) (λ e. m (sym e)))));
        board_size = length-set k.board qid None ∙ h.board_size;
        few = λ q other e. h.few q other (still q other e).1;
        cq_there = h.cq_there;
        qid_is = λ r. h.qid_is r ∙ ap (option_map (λ (a : Attachment). a.qid)) (sym (put-queue k.sq queue.region s refl r));
        cq_region_is = λ r. h.cq_region_is r ∙ ap (option_map (λ (a : Attachment). a.cq_region)) (sym (put-queue k.sq queue.region s refl r));
        attached = λ q other e. still_opened k.sq queue.region s other.region q refl (h.attached q other (still q other e).1);
        sq_there = λ r a e. h.sq_there r a (sym (put-queue k.sq queue.region s refl r) ∙ e);
        posts_there = λ r a e. h.posts_there r a (sym (put-queue k.sq queue.region s refl r) ∙ e);
        unopened = λ r e.
            let none : (k.sq r).queue ≡ None = sym (put-queue k.sq queue.region s refl r) ∙ e in
            put_elsewhere (IsBlank l.closed r) k.sq queue.region s r (unopened_apart k.sq queue.region r qid here none) (h.unopened r none);
        gone = λ r e. put_elsewhere IsGone k.sq queue.region s r (λ p. h.closed qid r queue e is (sym p)) (h.gone r e);
        closed = λ q r other e was same. h.closed q r other e (still q other was).1 same;
        deleting = λ x e at. elim (is_put k.deletion queue.region (Some d) x e at) [
          | Here same one ↦ subst (IsOpenedFor later) (ap (λ (o : Option PendingDelete). unwrap_or o d) one)
              (record { cq_region = c; opened = put_here (λ (z : SqContent). z.queue ≡ Some (opened_by d.qid c)) k.sq queue.region s d.region region_is (opened ∙ ap (λ (z : ℕ). Some (opened_by z c)) (sym qid_is)) })
          | Elsewhere differs there ↦ still_opened_for k.sq queue.region s e refl (h.deleting x e there)
        ];
      }

  -- the deletion of a queue, which isn't open, is finished
  pub finish : (c : ℕ) (d : PendingDelete) → (k.sq d.region).queue ≡ Some (record { qid = d.qid; cq_region = c }) → l.sqs d.qid ≡ None → IsGone (k.sq d.region)
      → Agree (record l { closed = λ r. d.region == r || l.closed r }) (record k { deletion = put_deletion k.deletion d.region None })
  finish c d opened none over =
      let here : OpenedFor (k.sq d.region) d.qid = record { cq_region = c; opened = opened } in
      record {
        board = h.board;
        board_size = h.board_size;
        few = h.few;
        cq_there = h.cq_there;
        qid_is = h.qid_is;
        cq_region_is = h.cq_region_is;
        attached = h.attached;
        sq_there = h.sq_there;
        posts_there = h.posts_there;
        unopened = λ r e.
            let was : IsBlank l.closed r (k.sq r) = h.unopened r e in
            record {
              nothing_got = was.nothing_got;
              none_waits = was.none_waits;
              not_closed = ap (λ (b : Bool). b || l.closed r) (ne_eqb d.region r (λ p. unopened_apart k.sq d.region r d.qid here e (sym p))) ∙ was.not_closed;
            };
        gone = λ r e. elim (cases_eq d.region r) [
          | inl p ↦ subst (λ (z : ℕ). IsGone (k.sq z)) p over
          | inr n ↦ h.gone r (sym (ap (λ (b : Bool). b || l.closed r) (ne_eqb d.region r n)) ∙ e)
        ];
        closed = λ q r queue e is same. elim (cases_eq d.region r) [
          | inl p ↦
              let q_is : q ≡ d.qid = one_queue (k.sq d.region) q d.qid (subst (λ (z : ℕ). OpenedFor (k.sq z) q) (same ∙ sym p) (h.attached q queue is)) here in
              none-some queue (sym none ∙ ap l.sqs (sym q_is) ∙ is)
          | inr n ↦ h.closed q r queue (sym (ap (λ (b : Bool). b || l.closed r) (ne_eqb d.region r n)) ∙ e) is same
        ];
        deleting = λ x e at. elim (is_put k.deletion d.region None x e at) [
          | Here same none_there ↦ absurd (none-some e none_there)
          | Elsewhere differs there ↦ h.deleting x e there
        ];
      }
