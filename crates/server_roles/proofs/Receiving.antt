-- One connection more.
use Rattle.std.proofs.Common.{◌≡◌, ℕ, List, [], ◌∷◌, ◌++◌, map, refl, sym, ap, ◌∙◌, subst, append_assoc, append-nil}
use Rattle.news_types.specs.Books.{Book}
use Rattle.news_types.specs.declared.entry.Entry.{Entry}
use Rattle.news_io.specs.Clock.{ClockMeaning, Gave}
use Rattle.news_io.proofs.Readings.{gave_then}
use Rattle.room_lock.specs.Going.{Went}
use Rattle.room_lock.specs.declared.view.Call.{Call}
use Rattle.room_lock.proofs.Going.{went_none, went_on}
use Rattle.shared_connections.specs.Connections.{Answered, answered_calls, answered_holds}
use Rattle.shared_workers.specs.Tallies.{gather}
use Rattle.shared_workers.proofs.Tallies.{gather_more}
use Rattle.server_doors.specs.Doors.{Closed, DoorMeaning}
use Rattle.server_doors.specs.declared.connection.Opened.{Opened}
use Rattle.server_roles.specs.Conns.{Conn, given_of, returned_of, answered_in, readings_in, IsServed, Received}
use Rattle.server_roles.proofs.Halting.{map_more, each_more}

module _ {G C : Type 0} (door : DoorMeaning G) (clock : ClockMeaning C) (stands : Book → Type 0) where
  -- none
  pub received_none : (old : G) (c : C) (xs : List Entry) (ks : List Call) → Received door clock stands old old c c xs ks xs ks []
  received_none old c xs ks = record {
    went = went_none answered_calls answered_holds stands xs ks;
    served = tt;
    passed = λ told. record { tells = told; given = sym (append-nil (door.given old)); returned = sym (append-nil (door.returned old)) };
    gave = λ all k. refl;
  }

  module _ (old mid new : G) (c c' : C) (xs : List Entry) (ks : List Call) (ys : List Entry) (ls : List Call) (conns : List Conn) (was : Received door clock stands old mid c c' xs ks ys ls conns) where
    -- the door gave no other
    pub received_still : (door.tells mid → door.tells new × (door.given new ≡ door.given mid) × (door.returned new ≡ door.returned mid)) → Received door clock stands old new c c' xs ks ys ls conns
    received_still still = record {
      went = was.went;
      served = was.served;
      passed = λ told. let p = was.passed told in let n = still p.tells in record { tells = n.0; given = n.1 ∙ p.given; returned = n.2 ∙ p.returned };
      gave = was.gave;
    }

    -- one more
    pub received_more : (c″ : C) (zs : List Entry) (ms : List Call) (d : Conn) → Went answered_calls answered_holds stands ys ls zs ms d.answered → IsServed (door.tells old) d
        → (door.tells mid → door.tells new × (door.given new ≡ door.given mid ++ d.given ∷ []) × (door.returned new ≡ door.returned mid ++ d.returned ∷ []))
        → (((k : C) → clock.tells k) → Gave (clock.ahead c') (readings_in d) (clock.ahead c″))
        → Received door clock stands old new c c″ xs ks zs ms (conns ++ d ∷ [])
    received_more c″ zs ms d w s one gave = record {
      went = subst (λ (l : List Answered). Went answered_calls answered_holds stands xs ks zs ms l) (sym (gather_more answered_in conns d))
          (went_on answered_calls answered_holds stands xs ks ys ls zs ms (gather answered_in conns) d.answered was.went w);
      served = each_more (IsServed (door.tells old)) conns d was.served s;
      passed = λ told. let p = was.passed told in let n = one p.tells in record {
        tells = n.0;
        given = n.1 ∙ (ap (λ (l : List Opened). l ++ d.given ∷ []) p.given ∙ (append_assoc (door.given old) (map given_of conns) (d.given ∷ []) ∙ ap (λ (l : List Opened). door.given old ++ l) (sym (map_more given_of conns d))));
        returned = n.2 ∙ (ap (λ (l : List Closed). l ++ d.returned ∷ []) p.returned ∙ (append_assoc (door.returned old) (map returned_of conns) (d.returned ∷ []) ∙ ap (λ (l : List Closed). door.returned old ++ l) (sym (map_more returned_of conns d))));
      };
      gave = λ all. subst (λ (l : List ℕ). Gave (clock.ahead c) l (clock.ahead c″)) (sym (gather_more readings_in conns d))
          (gave_then (clock.ahead c) (gather readings_in conns) (clock.ahead c') (readings_in d) (clock.ahead c″) (was.gave all) (gave all));
    }
