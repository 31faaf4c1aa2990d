-- Codes of inodes and their parts, by which a model's values are told apart.
use Rattle.std.specs.Prelude.{◌≡◌, ℕ, ◌⊎◌, List}
use Rattle.std.specs.FinMap.{FinMap, code}
use Rattle.std.specs.Coded.{Coded, code_by, coded_ℕ, coded_list, coded×, coded⊎}
use Rattle.std.proofs.Common.{refl, inl, inr}
use Rattle.su_bytes.specs.declared.file_ids.FileId.{FileId}
use Rattle.su_bytes.specs.declared.file_ids.FileId.TheVariants.{User, Group}
use Rattle.su_node.specs.Name.{name_cmp}
use Rattle.su_node.specs.Inode.{Content, Content.Bytes, Content.Names, Inode}

abbrev pub file_to : FileId → (ℕ × ℕ) ⊎ (ℕ × ℕ)
file_to (User u i) = inl (u, i)
file_to (Group g k) = inr (g, k)

abbrev pub file_from : (ℕ × ℕ) ⊎ (ℕ × ℕ) → FileId
file_from (inl p) = User p.0 p.1
file_from (inr g) = Group g.0 g.1

pub file_back : (f : FileId) → file_from (file_to f) ≡ f
file_back (User u i) = refl
file_back (Group g k) = refl

abbrev pub file_code : Coded FileId
file_code = code_by ((ℕ × ℕ) ⊎ (ℕ × ℕ)) (coded⊎ (coded× coded_ℕ coded_ℕ) (coded× coded_ℕ coded_ℕ)) file_to file_from file_back

abbrev pub content_to : Content → List ℕ ⊎ FinMap name_cmp FileId
content_to (Bytes bs) = inl bs
content_to (Names m) = inr m

abbrev pub content_from : List ℕ ⊎ FinMap name_cmp FileId → Content
content_from (inl bs) = Bytes bs
content_from (inr m) = Names m

pub content_back : (c : Content) → content_from (content_to c) ≡ c
content_back (Bytes bs) = refl
content_back (Names m) = refl

abbrev pub content_code : Coded Content
content_code = code_by (List ℕ ⊎ FinMap name_cmp FileId)
    (coded⊎ (coded_list coded_ℕ) (code (coded_list coded_ℕ) file_code)) content_to content_from content_back

abbrev pub inode_code : Coded Inode
inode_code = code_by (FileId × (ℕ × Content)) (coded× file_code (coded× coded_ℕ content_code))
    (λ i. (i.home, (i.links, i.content))) (λ p. record { home = p.0; links = p.1.0; content = p.1.1 }) (λ _. refl)
