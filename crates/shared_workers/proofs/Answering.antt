-- What the room answers to a receipt says whether the reply acknowledges the entry.
use Rattle.std.proofs.Common.{◌≡◌, ℕ, ◌≤◌, Bool, true, false, nat_lt, nat_le, List, length, Option, Some, None, refl, sym, ap, ◌∙◌, subst, arith}
use Rattle.std.proofs.lemmas.Bool.Decides.{nat_tests}
use Rattle.news_types.specs.declared.denial.Denial.{Denial}
use Rattle.news_types.specs.declared.entry.Entry.{Entry}
use Rattle.news_types.specs.declared.entry.Reply.{Reply}
use Rattle.news_types.specs.Names.{Bytes}
use Rattle.news_types.specs.History.{History, moment_at}
use Rattle.news_types.specs.Books.{Book}
use Rattle.news_types.specs.Denial.{receipt_denial}
use Rattle.news_types.specs.Delivery.{acked}
use Rattle.news_types.specs.Feeds.{feed}
use Rattle.news_types.specs.Outcome.{Outcome, Answered, Done, Denied, receipt_at}
use Rattle.news_types.specs.Products.{is_subscriber}
use Rattle.news_types.proofs.Members.{some_is}
use Rattle.feed_receiver.specs.Spelling.{receipt_bytes, IsReceipt}
use Rattle.feed_receiver.specs.Formats.{receipt_of}
use Rattle.feed_receiver.proofs.ReceiptLines.{read_again}
use Rattle.news_room.specs.Beside.{Beside}
use Rattle.news_room.specs.Stands.{LIMIT}
use Rattle.news_room.specs.Steps.{ReceiptStep, Refused, Failed, entries}
use Rattle.news_room.specs.declared.answers.Kept.{Kept}
use Rattle.news_room.proofs.Events.{none_refused, none_failed}
use Rattle.news_room.proofs.Small.{receipt_kept, receipt_settled, receipt_refused, receipt_within}
use Rattle.publish_workers.specs.Receipts.{IsReceiptFor}
use Rattle.publish_workers.specs.Steps.{IsReceiptAnswer}

denied_done : (why : Denial) (done : Reply) → Denied why ≡ Done done → ⊥
denied_done why done is = cc

-- two receipts of one line are for the same number
pub same_number : (s : Bytes) (n j : ℕ) (reply : Bytes) → IsReceipt s n → IsReceipt s j → reply ≡ receipt_bytes s n → reply ≡ receipt_bytes s j → j ≡ n
same_number s n j reply one other is was =
    let read : Some (s, n) ≡ Some (s, j) = sym (read_again.again s n one) ∙ ap (λ (line : Bytes). receipt_of line) (sym is ∙ was) ∙ read_again.again s j other in
    sym (ap (λ (r : Bytes × ℕ). r.1) (some_is (s, n) (s, j) read))

-- where it is not denied, the feed is long enough
within_by : (h : History) (s : Bytes) (n : ℕ) (d : Option Denial) → receipt_denial h s n ≡ d → ((why : Denial) → d ≡ Some why → ⊥) → n ≤ length (feed h s)
within_by h s n None is free = receipt_within h s n is
within_by h s n (Some why) is free = absurd (free why refl)

-- and where the feed is long enough, the receipt of a subscriber is not denied
pub fits_by : (h : History) (s : Bytes) (n : ℕ) → is_subscriber h s ≡ true → n ≤ length (feed h s) → receipt_denial h s n ≡ None
fits_by h s n there within = let fits : nat_le n (length (feed h s)) ≡ true = grind (arith, nat_tests, within) in rw (there, fits) refl

done_by : (h : History) (s : Bytes) (n m : ℕ) (raises : Bool) → nat_lt (acked h s) n ≡ raises → receipt_denial h s n ≡ None → (done : Reply) × ((receipt_at h s n m).answer ≡ Done done)
done_by h s n m true is free = (_, ap (λ (o : Outcome Answered). o.answer) (receipt_kept h s n m free is))
done_by h s n m false is free = (_, ap (λ (o : Outcome Answered). o.answer) (receipt_settled h s n m free is))

-- what was denied, was refused for its number
not_denied : (h : History) (s : Bytes) (n m : ℕ) (why : Denial) → is_subscriber h s ≡ true → (receipt_at h s n m).answer ≡ Denied why → n ≤ length (feed h s) → ⊥
not_denied h s n m why there denied within =
    let done = done_by h s n m (nat_lt (acked h s) n) refl (fits_by h s n there within) in
    denied_done why done.0 (sym denied ∙ done.1)

module _ (x : Beside) (b : Book) (at : ℕ) (s : Bytes) (k n : ℕ) (reply : Bytes) (more : List Entry) where
  nothing_follows : (why : Denial) → receipt_denial b.list s n ≡ Some why → entries (receipt_at b.list s n (moment_at b.list at)).more ≡ entries None
  nothing_follows why is = ap (λ (o : Outcome Answered). entries o.more) (receipt_refused b.list s n (moment_at b.list at) why is)

  pub receipt_answer : (kept : Kept) → is_subscriber b.list s ≡ true → IsReceiptFor s k n reply → ReceiptStep x b at s n more kept → IsReceiptAnswer b.list s k reply n kept
  receipt_answer (Kept.Done done) there receipt step = record {
    receipt = receipt;
    within = within_by b.list s n (receipt_denial b.list s n) refl
        (λ why is. denied_done why done (sym (ap (λ (o : Outcome Answered). o.answer) (receipt_refused b.list s n (moment_at b.list at) why is)) ∙ step.0));
  }
  receipt_answer (Kept.Denied why) there receipt step = λ j other.
      let same = same_number s n j reply receipt.form other.receipt.form receipt.line other.receipt.line in
      not_denied b.list s n (moment_at b.list at) why there step.0 (subst (λ (i : ℕ). i ≤ length (feed b.list s)) same other.within)
  receipt_answer Kept.Fault there receipt step = record {
    receipt = receipt;
    within = within_by b.list s n (receipt_denial b.list s n) refl (λ why is. none_failed x LIMIT more (subst (λ (l : List Entry). Failed x LIMIT l more) (nothing_follows why is) step));
  }
  receipt_answer (Kept.Full size count) there receipt step = record {
    receipt = receipt;
    within = within_by b.list s n (receipt_denial b.list s n) refl
        (λ why is. none_refused x LIMIT more size count (subst (λ (l : List Entry). Refused x LIMIT l more size count) (nothing_follows why is) step));
  }
