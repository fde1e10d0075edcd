-- The queue whose region is told.
use Rattle.std.proofs.Common.{◌≡◌, ℕ, true, false, Option, Some, None, refl}
use Rattle.std.specs.Prelude.{option_map, is_some, IsSomeAnd}
use Rattle.nvme_log.specs.Queues.{Queue}

-- a region is told: it is that of the queue
pub the_queue : (o : Option Queue) (r : ℕ) → Some r ≡ option_map (λ (queue : Queue). queue.region) o → IsSomeAnd o (λ queue. r ≡ queue.region)
the_queue None r e = cc e
the_queue (Some queue) r e = cc e

-- the same by whether one is told
pub none_there : {A : Type 0} (r : Option A) → is_some r ≡ false → r ≡ None
none_there None none = refl
none_there (Some it) none = (let lost : true ≡ false = none in cc lost)

pub some_there : {A : Type 0} (r : Option A) → is_some r ≡ true → (it : A) × (r ≡ Some it)
some_there None some = (let lost : false ≡ true = some in cc lost)
some_there (Some it) some = (it, refl)

-- and by what is made of it
pub none_made : {A B : Type 0} (f : A → B) (r : Option A) → option_map f r ≡ None → r ≡ None
none_made f None none = refl
none_made f (Some it) none = cc none
