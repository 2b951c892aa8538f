-- What `ship` did, by what was said of it before.
use Rattle.std.proofs.Common.{◌≡◌, inl, inr, ℕ, false, List, [], ◌∷◌, drop, take, refl, sym, ◌∙◌, ap}
use Rattle.std.proofs.lemmas.List.{take-append-drop}
use Rattle.news_types.specs.Names.{Bytes}
use Rattle.news_io.specs.Outside.{Meanings, Outside, read}
use Rattle.news_io.specs.Sink.{SinkMeaning}
use Rattle.news_io.proofs.Runs.{elapses_weaker}
use Rattle.newsdesk_cli.specs.Standby as over
use Rattle.room_standby.specs.declared.outcome.Ship.{Ship}
use Rattle.room_standby.specs.declared.outcome.Ship.TheVariants.{Level, LinkFault, NoKept, Memory}
use Rattle.run_status.specs.declared.status.Status.{Status}
use Rattle.run_status.specs.declared.status.Status.TheVariants as status
use Rattle.standby_files.specs.Shipping as shipping
use Rattle.standby_files.specs.Telling as telling
use Rattle.program_run.specs.Finding.{the_finders}
use Rattle.program_run.specs.Shipped.{IsToldWith, TellsShip, HasShipped, IsNotLinked, ShipsBy, ShipsOver, IsShipped}
use Rattle.program_run.proofs.Alike.{new_opens}
use Rattle.program_run.proofs.Refusing.{not_opened}

module _ {O : Type 0} (sink : SinkMeaning O) (o o' : O) (number : ℕ) where
  told_with : (line : Bytes) (why : Status) → telling.IsTold sink line why o o' number → IsToldWith sink line why o o' number
  told_with line why (inl t) = inl (record {
    mid = t.between;
    whole = record { wrote = t.written.wrote; passed = t.written.passed; calm = t.written.calm };
    stopped = record { status_is = t.status_is; line = t.told };
  })
  told_with line why (inr t) = inr (t.0, record { front = take t.1.count line; first = (drop t.1.count line, sym (take-append-drop t.1.count line)); wrote = t.1.wrote; rose = t.1.rose })

  ship_told : (answer : Ship) → shipping.TellsShip sink answer o o' number → TellsShip sink answer o o' number
  ship_told (Level count) t = told_with _ status.Done t
  ship_told (LinkFault n) t = told_with _ status.Link t
  ship_told (NoKept n reply) t = told_with _ status.NoReceipt t
  ship_told Memory t = record { status_is = t.status_is; line = t.line }

module _ {D S O C L : Type 0} (m : Meanings D S O C L) (before after : Outside D S O C L) (number : ℕ) (name : Bytes) where
  shipped : (l l' : L) → shipping.HasShipped m.disk m.sink m.link name before.log after.log before.side after.side before.output after.output l l' number → HasShipped m before after number name l l'
  shipped l l' h =
      let o = h.opened in
      record {
        store = o.store;
        list = o.history;
        opened = record {
          long = o.long;
          stored = (o.holds false (λ is. absurd (cc is))).stands.kept;
          opens = λ tell bytes. new_opens o.store o.long (read m before) o.history bytes (o.bytes tell.log tell.side);
          holds = λ tell files may bytes. new_opens o.store o.long files o.history bytes (h.files tell.log tell.side files may);
          crash = λ tell. elapses_weaker _ _ _ _ _ _ (h.crash tell.log tell.side)
              (λ c left. elim left [ inl was ↦ inl was | inr now ↦ inr (λ s may bytes. new_opens o.store o.long (c, s) o.history bytes (now s may)) ]);
          still = h.still;
          calm = h.calm;
        };
        records = h.records;
        are = λ tell. h.are tell.log tell.side;
        answer = h.answer;
        ships = h.ships;
        lines = λ tell from less. h.lines tell.log tell.side from less;
        counts = h.counts;
        told = ship_told m.sink before.output after.output number h.answer h.told;
      }

  not_linked : over.IsNotLinked m.disk m.sink name before.log after.log before.side after.side before.output after.output number → IsNotLinked m before after number name
  not_linked n = record { log = n.same; side = n.same_side; told = record { status_is = n.refused.status_is; line = n.refused.line } }

  module _ (input : after.input ≡ before.input) (clock : after.clock ≡ before.clock) where
    ships_by : (others : List L) (l l' : L) → before.links ≡ l ∷ others → after.links ≡ l' ∷ others
        → over.ShipsBy m.disk m.sink name before.log after.log before.side after.side before.output after.output number m.link l l' → ShipsBy m before after number name the_finders l l'
    ships_by others l l' were are (inl e) = inl (record { none = e.none; same = e.same_link; refused = not_linked e.refused })
    ships_by others l l' were are (inr (inl n)) = inr (inl (not_opened m before after number
        (record { why = n.why; refused = n.refused; stopped = record { status_is = n.stopped.status_is; line = n.stopped.line } }) input clock
        (are ∙ ap (λ (x : L). x ∷ others) n.link_same ∙ sym were)))
    ships_by others l l' were are (inr (inr h)) = inr (inr (shipped l l' h))

    ships_over : (ls ls' : List L) → before.links ≡ ls → after.links ≡ ls'
        → over.ShipsOver m.disk m.sink name before.log after.log before.side after.side before.output after.output number m.link ls ls' → ShipsOver m before after number name the_finders ls ls'
    ships_over [] ls' were are did = (did.0, not_linked did.1)
    ships_over (l ∷ others) ls' were are did = (did.0, did.1, ships_by others l did.0 were (are ∙ did.1) did.2)

    pub is_shipped : over.ShipsOver m.disk m.sink name before.log after.log before.side after.side before.output after.output number m.link before.links after.links → IsShipped m before after number name the_finders
    is_shipped did = (input, clock, ships_over before.links after.links refl refl did)
