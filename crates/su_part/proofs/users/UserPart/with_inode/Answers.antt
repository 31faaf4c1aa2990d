use Rattle.std.proofs.Common.{◌≡◌, ℕ, List, None, refl, sym, subst}
use Rattle.std.specs.FinMap.{get}
use Rattle.su_tree.specs.Number.{number_bits}
use Rattle.su_hash_tree.specs.Edits.{with_value}
use Rattle.su_part_tree.specs.Part.{StandsFor}
use Rattle.su_node.specs.Inode.{new_inode}
use Rattle.su_node.specs.InodeChange.{InodeChange.Copied, InodeChange.Made}
use Rattle.su_table.specs.Edit.{Edit.Inodes, edit}
use Rattle.su_table.specs.Tree.{Tree}
use Rattle.su_table.specs.Handle.{user_table}
use Rattle.su_part.specs.Bytes.{number_sort}
use Rattle.su_part.specs.declared.users.UserPart.{UserPart}
use Rattle.su_part.specs.Part.{StandsUser}
use Rattle.su_part.proofs.ContentLemmas.{meant_new}
use Rattle.su_part.proofs.FreshLemmas.{bare_user, one_inode}
use Rattle.su_part.proofs.UserLemmas.{made_edit, put_user, small_number}
use Rattle.su_part.proofs.users.UserPart.with_inode.Goals as goal

pub returns-clause-stands : goal.returns-clause-stands
returns-clause-stands c u T none =
    let key = c.number-key.result in
    let i = new_inode c.args.home c.args.kind in
    let before : UserPart = record { table = c.empty-table.result; inodes = c.new-inodes.result; alloc = c.args.alloc } in
    let after : UserPart = record { table = c.put.new.self; inodes = c.insert.new.self; alloc = c.args.alloc } in
    let bare = bare_user u T before none c.empty-table.ensures.stands c.new-inodes.ensures.empty in
    let put = λ (m : List (ℕ × List ℕ)) (s : StandsFor number_sort c.empty-table.result m). subst (λ d. StandsFor number_sort c.put.new.self (with_value number_bits key d m)) (c.digest-digest.ensures i c.new-inode.ensures.stands) (c.in_ok-put.ensures.ok m s) in
    subst (StandsUser u after) (made_edit T (u, c.args.number) c.args.home c.args.kind)
    (subst (λ n. StandsUser u after (edit T (Inodes (u, n) (Copied i)))) c.number-key.ensures.value
    (put_user (Copied i) i (λ o. refl) (meant_new c.args.home c.args.kind c.requires.meant) u key T before after c.new-inode.result bare
    (small_number key c.number-key.ensures.range.1) c.new-inode.ensures.stands (put (user_table T u) bare.table) c.in_ok-insert.ensures.updates.0))

pub returns-clause-all : goal.returns-clause-all
returns-clause-all c =
    let before : UserPart = record { table = c.empty-table.result; inodes = c.new-inodes.result; alloc = c.args.alloc } in
    let after : UserPart = record { table = c.put.new.self; inodes = c.insert.new.self; alloc = c.args.alloc } in
    let stands : (u : ℕ) (T : Tree) → ((n : ℕ) → get T.inodes (u, n) ≡ None) → StandsUser u after (edit T (Inodes (u, c.args.number) (Made c.args.home c.args.kind))) = returns-clause-stands c in
    let stands_key = subst (λ n. (u : ℕ) (T : Tree) → ((k : ℕ) → get T.inodes (u, k) ≡ None) → StandsUser u after (edit T (Inodes (u, n) (Made c.args.home c.args.kind)))) (sym c.number-key.ensures.value) stands in
    one_inode before after c.number-key.result c.new-inode.result (Made c.args.home c.args.kind) stands_key (λ m. c.in_ok-put.ensures.keeps m (c.empty-table.ensures.reached m)) c.new-inodes.ensures.empty c.in_ok-insert.ensures.updates.0 c.new-inode.ensures.all
