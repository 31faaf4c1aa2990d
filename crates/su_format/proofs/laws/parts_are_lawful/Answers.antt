use Rattle.su_format.proofs.Parts.{u8_lawful, u16_lawful, u32_lawful, u64_lawful, bytes_lawful, rest_lawful, digest_lawful, mark_lawful, user_lawful, group_lawful, inum_lawful, principal_lawful, file_id_lawful, name_lawful, kind_lawful}
use Rattle.su_format.proofs.laws.parts_are_lawful.Goals as goal

pub returns : goal.returns
returns c = record {
  u8 = u8_lawful;
  u16 = u16_lawful;
  u32 = u32_lawful;
  u64 = u64_lawful;
  bytes = bytes_lawful;
  rest = rest_lawful;
  digest = digest_lawful;
  mark = mark_lawful;
  user = user_lawful;
  group = group_lawful;
  inum = inum_lawful;
  principal = principal_lawful;
  file_id = file_id_lawful;
  name = name_lawful;
  kind = kind_lawful;
}
