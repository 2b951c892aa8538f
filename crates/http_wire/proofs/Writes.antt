-- Writes one behind the other.
use Rattle.std.specs.Prelude.{◌≡◌, ℕ, ◌≤◌, ◌++◌, List, [], length, Result, Ok, Err, OnOk, OnErr, IsErr}
use Rattle.std.proofs.Common.{sym, ap, ◌∙◌, append_assoc, take, drop, subst}
use Rattle.std.proofs.lemmas.List.{take-append-drop, append-nil}
use Rattle.std.proofs.lemmas.Bool.{false≢true}
use Rattle.news_io.specs.declared.faults.Failed.{Failed}
use Rattle.http_wire.specs.Writing.{Wrote, WroteSome, Writes, Puts}
use Rattle.news_io.specs.Sink.{SinkMeaning}

module _ {O : Type 0} (sink : SinkMeaning O) where
  -- nothing yet
  pub none_yet : (o : O) (held : List ℕ) → held ≡ [] → Wrote sink o o [] held
  none_yet o held none = record { said = []; part = sym none; wrote = sym (append-nil (sink.taken o)) }

  -- the first of some bytes
  pub by_take : (old new : O) (n : ℕ) (bytes : List ℕ) → sink.taken new ≡ sink.taken old ++ take n bytes → WroteSome sink old new bytes
  by_take old new n bytes e = (drop n bytes, record { said = take n bytes; part = sym (take-append-drop n bytes); wrote = e })

  -- a text that goes on
  pub with_more : (old new : O) (a b : List ℕ) → WroteSome sink old new a → WroteSome sink old new (a ++ b)
  with_more old new a b w = (
    w.0 ++ b,
    record {
      said = w.1.said;
      part = ap (λ (l : List ℕ). l ++ b) w.1.part ∙ append_assoc w.1.said w.0 b;
      wrote = w.1.wrote;
    },
  )

  -- a text up to what is held back, and then that with more behind it
  pub goes_on : (old mid new : O) (text held more rest : List ℕ) → Wrote sink old mid text held → Wrote sink mid new (held ++ more) rest → Wrote sink old new (text ++ more) rest
  goes_on old mid new text held more rest one other = record {
    said = one.said ++ other.said;
    part = ap (λ (l : List ℕ). l ++ more) one.part ∙ append_assoc one.said held more
        ∙ ap (λ (l : List ℕ). one.said ++ l) other.part ∙ sym (append_assoc one.said other.said rest);
    wrote = other.wrote ∙ ap (λ (l : List ℕ). l ++ other.said) one.wrote ∙ append_assoc (sink.taken old) one.said other.said;
  }

  -- all of one, then of the other all but what is held back: nothing
  pub then_puts : (old mid new : O) (a b held : List ℕ) (r : Result (Unit {0}) Failed)
      → sink.taken mid ≡ sink.taken old ++ a → OnOk r (sink.taken new ≡ sink.taken mid ++ b) → OnErr r (WroteSome sink mid new b) → held ≡ [] → Puts sink old new (a ++ b) held r
  then_puts old mid new a b held (Ok u) one ok err none = record {
    said = a ++ b;
    part = sym (append-nil (a ++ b)) ∙ ap (λ (l : List ℕ). (a ++ b) ++ l) (sym none);
    wrote = ok ∙ ap (λ (l : List ℕ). l ++ b) one ∙ append_assoc (sink.taken old) a b;
  }
  then_puts old mid new a b held (Err e) one ok err none = (
    err.0,
    goes_on old mid new a [] b err.0
        (record { said = a; part = sym (append-nil a); wrote = one }) err.1,
  )

  -- what was held back is written last
  pub then_all : (old mid new : O) (text held : List ℕ) (r : Result (Unit {0}) Failed)
      → Wrote sink old mid text held → OnOk r (sink.taken new ≡ sink.taken mid ++ held) → OnErr r (WroteSome sink mid new held) → Writes sink old new text r
  then_all old mid new text held (Ok u) one ok err =
      ok ∙ ap (λ (l : List ℕ). l ++ held) one.wrote ∙ append_assoc (sink.taken old) one.said held ∙ ap (λ (l : List ℕ). sink.taken old ++ l) (sym one.part)
  then_all old mid new text held (Err e) one ok err = (
    err.0,
    record {
      said = one.said ++ err.1.said;
      part = one.part ∙ ap (λ (l : List ℕ). one.said ++ l) err.1.part ∙ sym (append_assoc one.said err.1.said err.0);
      wrote = err.1.wrote ∙ ap (λ (l : List ℕ). l ++ err.1.said) one.wrote ∙ append_assoc (sink.taken old) one.said err.1.said;
    },
  )

  -- as `write_all` tells it
  pub from_all : (old new : O) (bytes text : List ℕ) (r : Result (Unit {0}) Failed) → sink.tells old → bytes ≡ text
      → OnErr r ((n : ℕ) × (n ≤ length bytes) × (sink.tells old → sink.taken new ≡ sink.taken old ++ take n bytes)) → OnErr r (WroteSome sink old new text)
  from_all old new bytes text (Ok u) told same err = err
  from_all old new bytes text (Err e) told same err = by_take old new err.0 text (err.2 told ∙ ap (λ (l : List ℕ). sink.taken old ++ take err.0 l) same)

  -- a failure at what was held back before
  pub stops : (old new : O) (text more held : List ℕ) (r : Result (Unit {0}) Failed) → IsErr r → WroteSome sink old new text → Puts sink old new (text ++ more) held r
  stops old new text more held (Ok u) is w = absurd (false≢true is)
  stops old new text more held (Err f) is w = with_more old new text more w

  -- a failure at some piece of a text
  pub stops_early : (old mid new : O) (text held more rest all : List ℕ) (r : Result (Unit {0}) Failed) → IsErr r → all ≡ (text ++ more) ++ rest
      → Wrote sink old mid text held → WroteSome sink mid new (held ++ more) → Writes sink old new all r
  stops_early old mid new text held more rest all (Ok u) is whole one some = absurd (false≢true is)
  stops_early old mid new text held more rest all (Err f) is whole one some =
      subst (λ (l : List ℕ). WroteSome sink old new l) (sym whole) (with_more old new (text ++ more) rest (some.0, goes_on old mid new text held more some.0 one some.1))
