use Rattle.std.proofs.Common.{◌≡◌, ℕ, List, [], ◌∷◌, ◌++◌, ◌∙◌, ap, append_assoc}
use Rattle.std.specs.Int.{w32, to_be_bytes}
use Rattle.sha2.specs.Sha256.{sha256}
use Rattle.su_bytes.specs.FileId.{file_id_bytes}
use Rattle.su_bytes.specs.declared.file_ids.FileId.{FileId}
use Rattle.su_node.specs.Inode.{Inode, kind_of, size_of}
use Rattle.su_node.specs.Digest.{inode_digest, kind_byte, content_digest}
use Rattle.su_node.proofs.inodes.Inode.digest.Goals as goal

-- what the hasher was given, piece by piece
same_item : (a b : FileId) (k m l n : ℕ) (s t d e : List ℕ) → a ≡ b → k ≡ m → l ≡ n → s ≡ t → d ≡ e
    → sha256 (3 ∷ (((file_id_bytes a ++ (k ∷ l ∷ [])) ++ s) ++ d)) ≡ sha256 (3 ∷ file_id_bytes b ++ m ∷ n ∷ t ++ e)
same_item a b k m l n s t d e p q r u v = rw (p, q, r, u, v) (ap (λ xs. sha256 (3 ∷ (xs ++ e))) (append_assoc (file_id_bytes b) (m ∷ n ∷ []) t))

pub returns : goal.returns
unfolding inode_digest
returns c =
    let fed = c.update-4.ensures _ (c.update-3.ensures _ (c.update-2.ensures _ (c.feed.ensures.fed _ (c.update.ensures _ c.new-hasher.ensures)))) in
    let home : c.self.inside.home ≡ c.args.self.now.home = ap (λ (i : Inode). i.home) c.self.view_is in
    let links : c.self.inside.links ≡ c.args.self.now.links = ap (λ (i : Inode). i.links) c.self.view_is in
    let kind : c.byte_of_kind.result ≡ kind_byte (kind_of c.args.self.now.content) = c.byte_of_kind.ensures ∙ ap kind_byte c.kind.ensures in
    let size : c.to_be_bytes.result ≡ to_be_bytes w32 (size_of c.args.self.now.content) = c.to_be_bytes.ensures ∙ ap (to_be_bytes w32) c.size.ensures in
    let content : c.as_bytes.result.now ≡ content_digest c.args.self.now.content = c.as_bytes.ensures ∙ c.content_digest.ensures in
    c.new.ensures ∙ c.finalize.ensures _ fed ∙ same_item _ _ _ _ _ _ _ _ _ _ home kind links size content
