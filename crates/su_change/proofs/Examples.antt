-- Worked examples of the definitions.
use Rattle.std.proofs.Common.{◌≡◌, ℕ, List, [], ◌∷◌, ◌++◌, inl, inr, refl, arith}
use Rattle.su_bytes.specs.declared.file_ids.FileId.TheVariants.{User}
use Rattle.su_bytes.specs.declared.file_ids.Kind.{Kind}
use Rattle.su_bytes.specs.declared.file_ids.Kind.TheVariants.{File, Dir}
use Rattle.su_op.specs.declared.operations.Op.{Op}
use Rattle.su_op.specs.declared.operations.Op.TheVariants.{Create, Truncate, Drop}
use Rattle.su_op.specs.declared.operations.Change.TheVariants.{Do, Undo}
use Rattle.su_format.specs.Format.{part, making, ◌>>=◌, repeated, whole}
use Rattle.su_format.specs.Part.{file_id_part, name_part, inum_part, kind_part, u8_part, u16_bytes, kind_bytes, AnyKind, mark_part}
use Rattle.su_format.specs.Reading.{IsRefusedAt, start}
use Rattle.su_change.specs.Kinds.{no_kind, one_of}
use Rattle.su_change.specs.NameAt.{name_at_format}
use Rattle.su_change.specs.Create.{create_fields}
use Rattle.su_change.specs.Operation.{op_format}
use Rattle.su_change.specs.Batch.{IsCount, count_part, ops_format, batch_format, batch_fields}
use Rattle.su_change.specs.Item.{first_byte, item_bytes, tagged_format, within, marked_format, item_format}
use Rattle.su_change.proofs.Batches.{count_is_u16, u16_told}

-- a new file U0:3 with the name `f` in the directory U0:2
a_create : item_bytes (Do (Create (record { dir = User 0 2; name = 102 ∷ []; file = User 0 3; body = 3; kind = File }) ∷ []))
    ≡ 5 ∷ 1 ∷ 0 ∷ 0 ∷ 0 ∷ 0 ∷ 0 ∷ 2 ∷ 1 ∷ 102 ∷ 0 ∷ 0 ∷ 0 ∷ 0 ∷ 0 ∷ 3 ∷ 0 ∷ 0 ∷ 0 ∷ 3 ∷ 0 ∷ []
unfolding item_bytes
a_create = refl

an_undo : item_bytes (Undo 258) ≡ 5 ∷ 0 ∷ 0 ∷ 0 ∷ 0 ∷ 0 ∷ 0 ∷ 0 ∷ 1 ∷ 2 ∷ []
unfolding item_bytes
an_undo = refl

-- U0:3 gets the size 7, and the body 9 goes
cut_and_drop : List Op
cut_and_drop = Truncate (record { file = User 0 3; size = 7 }) ∷ Drop (record { body = 9 }) ∷ []

a_batch : item_bytes (Do cut_and_drop) ≡ 5 ∷ 10 ∷ 0 ∷ 2 ∷ 3 ∷ 0 ∷ 0 ∷ 0 ∷ 0 ∷ 0 ∷ 3 ∷ 0 ∷ 0 ∷ 0 ∷ 7 ∷ 8 ∷ 0 ∷ 0 ∷ 0 ∷ 9 ∷ []
unfolding item_bytes cut_and_drop
a_batch = refl

-- neither a file nor a directory is spelled in no bytes
neither : (k : Kind) (behind : List ℕ) → AnyKind k → [] ≡ kind_bytes k ++ behind → ⊥
neither File behind any e = cc
neither Dir behind any e = cc

-- without its last byte it is refused at byte 20, where its kind would be
a_cut_create : IsRefusedAt (whole item_format) (start (5 ∷ 1 ∷ 0 ∷ 0 ∷ 0 ∷ 0 ∷ 0 ∷ 2 ∷ 1 ∷ 102 ∷ 0 ∷ 0 ∷ 0 ∷ 0 ∷ 0 ∷ 3 ∷ 0 ∷ 0 ∷ 0 ∷ 3 ∷ [])) 20
unfolding whole item_format within marked_format create_fields name_at_format making ◌>>=◌ part mark_part u8_part tagged_format one_of file_id_part name_part inum_part kind_part
a_cut_create = record {
  behind = [];
  fails = inl (inl (inr (
    first_byte,
    _,
    (refl, refl),
    inr (
      1,
      _,
      (omega arith, refl),
      inl (inr (
        record { dir = User 0 2; name = 102 ∷ []; file = User 0 3 },
        _,
        (User 0 2, _, (refl, refl), (102 ∷ [], _, (refl, refl), (User 0 3, _, (refl, refl), (refl, refl)))),
        inr (3, [], (refl, refl), inl (refl, neither)),
      )),
    ),
  )));
  place_is = refl;
}

-- 11 is the number of no kind, and what is refused at byte 1
an_unknown_kind : IsRefusedAt (whole item_format) (start (5 ∷ 11 ∷ [])) 1
unfolding whole item_format within marked_format making ◌>>=◌ part mark_part u8_part tagged_format one_of no_kind
an_unknown_kind = record {
  behind = 11 ∷ [];
  fails = inl (inl (inr (first_byte, _, (refl, refl), inr (11, [], (omega arith, refl), refl))));
  place_is = refl;
}

-- a count of a batch isn't spelled as 1 is
not_one : (n : ℕ) (behind : List ℕ) → IsCount n → 0 ∷ 1 ∷ 8 ∷ 0 ∷ 0 ∷ 0 ∷ 9 ∷ [] ≡ u16_bytes n ++ behind → ⊥
not_one n behind is e =
    let one = (u16_told 1 n (8 ∷ 0 ∷ 0 ∷ 0 ∷ 9 ∷ []) behind (omega arith) (count_is_u16 n is).0 e).0 in
    omega (arith, one, is.0)

-- a batch of one operation is refused at byte 2, where its count is
a_batch_of_one : IsRefusedAt (whole item_format) (start (5 ∷ 10 ∷ 0 ∷ 1 ∷ 8 ∷ 0 ∷ 0 ∷ 0 ∷ 9 ∷ [])) 2
unfolding whole item_format within marked_format batch_fields batch_format making ◌>>=◌ part mark_part u8_part tagged_format one_of count_part
a_batch_of_one = record {
  behind = 0 ∷ 1 ∷ 8 ∷ 0 ∷ 0 ∷ 0 ∷ 9 ∷ [];
  fails = inl (inl (inr (first_byte, _, (refl, refl), inr (10, _, (omega arith, refl), inl (inl (refl, not_one))))));
  place_is = refl;
}

-- a batch inside of a batch is refused at its number, byte 4, which is that of no operation
a_batch_inside : IsRefusedAt (whole item_format) (start (5 ∷ 10 ∷ 0 ∷ 2 ∷ 10 ∷ [])) 4
unfolding whole item_format within marked_format batch_fields batch_format ops_format repeated op_format making ◌>>=◌ part mark_part u8_part tagged_format one_of count_part no_kind
a_batch_inside = record {
  behind = 10 ∷ [];
  fails = inl (inl (inr (
    first_byte,
    _,
    (refl, refl),
    inr (10, _, (omega arith, refl), inl (inr (2, _, ((omega arith, omega arith), refl), inl (inr (10, [], (omega arith, refl), refl))))),
  )));
  place_is = refl;
}
