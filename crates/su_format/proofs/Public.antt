-- The lemmas that proofs of other crates may cite.
pub use Rattle.su_format.proofs.Formats.{taken, missing, part_lawful, goes_on, stops, then_took, then_refused, first_refused, handed_on_to, handed_on, in_order, made, making_lawful, missing_too, another, taken_as}
pub use Rattle.su_format.proofs.Parts.{same_fronts, u8_lawful, u16_lawful, u32_lawful, u64_lawful, bytes_lawful, rest_lawful, digest_lawful, mark_lawful, user_lawful, group_lawful, inum_lawful, principal_lawful, file_id_lawful, name_lawful, kind_lawful, u32_told, u64_told}
pub use Rattle.su_format.proofs.Repeats.{in_front, in_front-push, one_more, none_more, no_more, part_of, repeated_lawful, repeated_of, GoesOn, goes_on_at_first, goes_on_after, goes_nowhere, goes_to_end}
pub use Rattle.su_format.proofs.Wholes.{whole_lawful, decoded, left_over, undecoded, read_as_spelled, spelling_told}
pub use Rattle.su_format.proofs.Rows.{Makes, of_format, format_of, said_as, known_as, last_of, in_order_of, told_by, behind_mark, repeats, counted, found_by, only_by, part_makes, u8_of, u32_of, u64_of, bytes_of, digest_of, user_of, inum_of, file_id_of, name_of, kind_of}
