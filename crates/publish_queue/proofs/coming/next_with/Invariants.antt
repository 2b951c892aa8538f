use Rattle.std.proofs.Common.{◌≡◌, ℕ, ◌||◌, drop}
use Rattle.std.specs.List.{list_any}
use Rattle.news_types.specs.declared.query.Due.{Due}
use Rattle.news_types.specs.Due.{is_by}
use Rattle.news_types.specs.Legal.{comes_by}
use Rattle.publish_queue.specs.Coming.{some_of_it}
use Rattle.publish_queue.proofs.coming.next_with.Given as goal

-- with the rest it is that of all
abbrev pub invariant-loop-it : goal.invariant-loop-it
invariant-loop-it l = (n : ℕ) → (some_of_it l.moment n l.release l.due || is_by n l.fn.next) ≡ (list_any (λ (d : Due). comes_by l.moment n d.release) (drop l.it-index l.due) || is_by n l.first)
