-- Laws of logs.
use Rattle.std.specs.Prelude.{◌≡◌, ℕ, ◌+◌, ◌%◌, ◌==◌, ◌&&◌, ◌<◌, ◌≤◌, Bool, true, is_some, [], ◌∷◌, if◌then◌else◌}
use Rattle.nvme_audit.specs.declared.event.Event.TheVariants.{Tail, Head, Fetch, Post}
use Rattle.nvme_audit.specs.declared.facts.Start.{Start}
use Rattle.nvme_audit.specs.Lives.{Past, asked, turns_sq, done}
use Rattle.nvme_audit.specs.Rings.{slots_of}
use Rattle.nvme_audit.specs.Rules.{is_head_of}
use Rattle.nvme_audit.specs.Lawful.{IsFaultlessLog}

-- how many commands were fetched under a name since its queue was created or deleted
abbrev pub fetches_of : Past → (sq cid : ℕ) → ℕ
fetches_of [] q c = 0
fetches_of (Tail sq slot ∷ past) q c = fetches_of past q c
fetches_of (Head cq slot ∷ past) q c = fetches_of past q c
fetches_of (Fetch sq slot cid command ∷ past) q c = if (sq == q) && (cid == c) then fetches_of past q c + 1 else fetches_of past q c
fetches_of (Post cq slot completion ∷ past) q c = if turns_sq (done past completion) q then 0 else fetches_of past q c

-- how many completions came under it
abbrev pub answers_of : Past → (sq cid : ℕ) → ℕ
answers_of [] q c = 0
answers_of (Tail sq slot ∷ past) q c = answers_of past q c
answers_of (Head cq slot ∷ past) q c = answers_of past q c
answers_of (Fetch sq slot cid command ∷ past) q c = answers_of past q c
answers_of (Post cq slot completion ∷ past) q c =
    if turns_sq (done past completion) q then 0
    else (if (completion.sq == q) && (completion.cid == c) then answers_of past q c + 1 else answers_of past q c)

abbrev pub one_if : Bool → ℕ
one_if b = if b then 1 else 0

-- in a log without faults whose completions are told where they are written, each fetched command is answered once, but for the
-- outstanding one of its name
abbrev pub AnsweredOnce : Type 0
AnsweredOnce = (start : Start) (past : Past) → start.tells.posts ≡ true → IsFaultlessLog start past → (q c : ℕ) → fetches_of past q c ≡ answers_of past q c + one_if (is_some (asked past q c))

-- ---- heads
-- a head after this many commands of the queue: the command with this number is one of them, and all were fetched
pub record IsHeadAfter (qsize number fetched head : ℕ) : Type 0 where
  pub count : ℕ
  pub after_own : number < count
  pub was_fetched : count ≤ fetched
  pub head_is : head ≡ count % slots_of qsize

-- the heads that a completion may tell are just these
abbrev pub HeadsAreCounts : Type 0
HeadsAreCounts = (qsize number fetched head : ℕ) → (is_head_of qsize number fetched head ≡ true → IsHeadAfter qsize number fetched head) × (IsHeadAfter qsize number fetched head → is_head_of qsize number fetched head ≡ true)
