-- When a put may write, and what its rounds do.
use Rattle.std.proofs.Common.{◌≡◌, ◌⊎◌, inl, inr, ◌++◌, ◌∷◌, [], ◌∙◌, ℕ, suc, ◌+◌, ◌<◌, Bool, true, List, length, take, get_or, Option, Result, Ok, Err, IfOk, OnOk, append_assoc, append-nil, refl, sym, ap, subst}
use Rattle.std.proofs.lemmas.List.{take_more}
use Rattle.su_bytes.specs.declared.file_ids.FileId.{FileId}
use Rattle.su_bytes.specs.declared.refusals.Refusal.TheVariants.{NoMemory, NoName}
use Rattle.su_part_tree.specs.Loading.{IsLoadRefusal}
use Rattle.su_table.specs.Query.{contents}
use Rattle.std.specs.Global.{Vec}
use Rattle.su_desk.specs.declared.entries.Entry.{Entry}
use Rattle.su_draft.specs.declared.commands.Command.{Command}
use Rattle.su_draft.specs.Walk.{found}
use Rattle.su_legal.specs.Legal.{history}
use Rattle.su_view.specs.Holding.{HoldingState, tree_of_list}
use Rattle.su_view.specs.declared.refusals.ViewRefusal.TheVariants.{Plain}
use Rattle.su_client_work.specs.Member.{MemberState, IsClear, OnlyAsks}
use Rattle.su_client_work.proofs.Public.{asks_then}
use Rattle.su_person.specs.declared.carrying.Others.TheVariants.{Unwelcome}
use Rattle.su_person.specs.declared.faults.Fault.{Fault}
use Rattle.su_person.specs.declared.faults.Fault.TheVariants.{Refused, Shown, Changed, Unkept}
use Rattle.su_person.specs.Carrying.{CarriesSome}
use Rattle.su_person.specs.Fault.{TellsNoChange}
use Rattle.su_person.specs.LastChange.{last_change}
use Rattle.su_person.specs.Putting.{HasBytes, HasThere, IsFileWith, IsStanding, KnowsBytes, MayWrite, PutsAll, PutsByRounds, PutsOne, PutsOver, RoundTogether, TellsUnseen, TellsWhy}
use Rattle.su_person.specs.declared.putting.NewContents.{NewContents}
use Rattle.su_person.specs.declared.putting.Standing.{Standing}
use Rattle.su_person.specs.declared.putting.Standing.TheVariants.{Nothing, File}
use Rattle.su_pieces.specs.CarriedOut.{LeadsTo}

-- what is known of the file there by what is held
pub may_write : (v : HoldingState) (seen : Option ℕ) (over : Bool) (path : List ℕ) (file : FileId) (user : ℕ) (h : List Entry)
    → found (tree_of_list v) path ≡ Ok file → user ≡ v.user → h ≡ history v.held → (over ≡ true) ⊎ KnowsBytes user seen h file → MayWrite seen over path v
may_write v seen over path file user h there is_user is_history (inl over_all) = inl over_all
may_write v seen over path file user h there is_user is_history (inr knows) =
    inr (inr (
      file,
      there,
      subst (λ (u : ℕ). KnowsBytes u seen (history v.held) file) is_user (subst (λ (l : List Entry). KnowsBytes user seen l file) is_history knows),
    ))

-- what holds of an answer, if it is one, holds of that one
pub of_ok : {A E : Type 0} (P : A → Type 0) (r s : Result A E) (a : A) → s ≡ r → s ≡ Ok a → IfOk r P → P a
of_ok {A} {E} P r s a same is holds = subst (λ (x : Result A E). IfOk x P) (sym same ∙ is) holds

-- a file with these bytes that stands at the path is there
pub there_of : (v : HoldingState) (path new : List ℕ) (standing : Standing) → IsStanding v path standing → HasBytes standing new → HasThere v path new
there_of v path new Nothing stands has = elim has [ ]
there_of v path new (File file bytes) stands has = (file, subst (λ (bs : List ℕ). LeadsTo (tree_of_list v) path file bs) has stands)

-- what isn't seen is told of the file there
pub tells_why : (v : HoldingState) (seen : Option ℕ) (over : Bool) (path : List ℕ) (file : FileId) (user : ℕ) (h : List Entry) (e : Fault)
    → found (tree_of_list v) path ≡ Ok file → user ≡ v.user → h ≡ history v.held
    → (e ≡ Refused (Plain NoMemory)) ⊎ TellsUnseen seen over user (last_change h file) e
    → TellsWhy seen over path v e
tells_why v seen over path file user h e there is_user is_history (inl none) = subst (TellsWhy seen over path v) (sym none) tt
tells_why v seen over path file user h (Refused r) there is_user is_history (inr tells) = tt
tells_why v seen over path file user h (Shown r) there is_user is_history (inr tells) = tt
tells_why v seen over path file user h Unkept there is_user is_history (inr tells) = tt
tells_why v seen over path file user h (Changed n author) there is_user is_history (inr tells) = (
  file,
  there,
  subst (λ (u : ℕ). TellsUnseen seen over u (last_change (history v.held) file) (Changed n author)) is_user
      (subst (λ (l : List Entry). TellsUnseen seen over user (last_change l file) (Changed n author)) is_history tells),
)

-- a fault that tells no change has nothing to tell
pub tells_none : (v : HoldingState) (seen : Option ℕ) (over : Bool) (path : List ℕ) (e : Fault) → TellsNoChange e → TellsWhy seen over path v e
tells_none v seen over path (Refused r) none = tt
tells_none v seen over path (Shown r) none = tt
tells_none v seen over path Unkept none = tt
tells_none v seen over path (Changed n author) none = elim none [ ]

-- nothing was asked
pub asks_itself : (s : MemberState) → OnlyAsks s s
asks_itself s = record { holding = refl; clear = λ clear. clear; signed = refl; next = refl }

-- so far there were some rounds from s on, where these numbers were noted
abbrev pub RoundsNoted : Option ℕ → Bool → List ℕ → List ℕ → MemberState → List ℕ → MemberState → List ℕ → Type 0
RoundsNoted seen over path new s olds m now = (ns : List ℕ) × (now ≡ olds ++ ns) × PutsByRounds seen over path new s ns m

-- a round more, once it was looked at what stands there
pub round_more : (seen : Option ℕ) (over : Bool) (path new olds before now : List ℕ) (commands : List Command) (s m looked t : MemberState)
    → RoundsNoted seen over path new s olds m before → OnlyAsks m looked → (IsClear t → IsClear looked) → (IsClear t → MayWrite seen over path looked.holding)
    → (IsClear t → PutsOver looked.holding path new commands) → (ms : List ℕ) × (now ≡ before ++ ms) × CarriesSome Unwelcome commands looked ms t
    → RoundsNoted seen over path new s olds t now
round_more seen over path new olds before now commands s m looked t (ns, noted, (k, last, rounds, asked)) asks back may puts (ms, more, carries) =
    let looks = asks_then last m looked asked asks in (
      ns ++ ms,
      more ∙ ap (λ (l : List ℕ). l ++ ms) noted ∙ append_assoc olds ns ms,
      (
        suc k,
        t,
        (
          last,
          ns,
          ms,
          refl,
          rounds,
          record {
            looked = looked;
            looks = looks;
            commands = commands;
            may = λ clear. subst (MayWrite seen over path) looks.holding (may clear);
            puts = λ clear. subst (λ (v : HoldingState). PutsOver v path new commands) looks.holding (puts clear);
            clear = λ clear. looks.clear (back clear);
            carries = carries;
          },
        ),
        asks_itself t,
      ),
    )

-- and one after which nothing was looked at but what stands there
pub rounds_still : (seen : Option ℕ) (over : Bool) (path new olds now : List ℕ) (s m looked : MemberState)
    → RoundsNoted seen over path new s olds m now → OnlyAsks m looked → RoundsNoted seen over path new s olds looked now
rounds_still seen over path new olds now s m looked (ns, noted, (k, last, rounds, asked)) asks = (ns, noted, (k, last, rounds, asks_then last m looked asked asks))

-- ---- several files

-- a file more
pub puts_more : (v : HoldingState) (news : List NewContents) (new : NewContents) (commands next : List Command)
    → PutsAll v news commands → PutsOne v new next → PutsAll v (news ++ new ∷ []) (commands ++ next)
puts_more v [] new commands next none puts =
    (next, [], ap (λ (l : List Command). l ++ next) none ∙ sym (append-nil next), puts, refl)
puts_more v (first ∷ news) new commands next (front, back, is, puts_first, rest) puts = (
  front,
  back ++ next,
  ap (λ (l : List Command). l ++ next) is ∙ append_assoc front back next,
  puts_first,
  puts_more v news new back next rest puts,
)

-- nothing is put
pub no_round : (its : List Command) (news : List NewContents) (s t : MemberState) (olds : List ℕ) → OnlyAsks s t
    → (ns : List ℕ) × (olds ≡ olds ++ ns) × RoundTogether its news s ns t
no_round its news s t olds asks = (
  [],
  sym (append-nil olds),
  record {
    looked = t;
    looks = asks;
    commands = [];
    puts = inl refl;
    carries = record { steps = 0; left = []; between = t; carries = (refl, refl, refl); ends = inl (t, inl refl, inl refl) };
  },
)

-- a round of these commands
pub round_of : (its : List Command) (news : List NewContents) (commands : List Command) (s looked t : MemberState) (olds now : List ℕ) → OnlyAsks s looked → (IsClear t → IsClear looked)
    → (more : List Command) × (commands ≡ its ++ more) × (IsClear looked → PutsAll s.holding news more)
    → (ns : List ℕ) × (now ≡ olds ++ ns) × CarriesSome Unwelcome commands looked ns t
    → (ns : List ℕ) × (now ≡ olds ++ ns) × RoundTogether its news s ns t
round_of its news commands s looked t olds now asks back (more, are, puts) (ns, noted, carries) = (
  ns,
  noted,
  record { looked = looked; looks = asks; commands = commands; puts = inr (more, are, λ clear. puts (back clear)); carries = carries },
)

-- the commands of the first files, and those of the next one
pub puts_next : (all : List NewContents) (i : ℕ) (none : NewContents) (s m t : MemberState) (commands next : List Command) → i < length all → OnlyAsks s m → OnlyAsks m t
    → (IsClear m → PutsAll s.holding (take i all) commands) → (IsClear t → PutsOne m.holding (get_or all i none) next) → IsClear t → PutsAll s.holding (take (i + 1) all) (commands ++ next)
puts_next all i none s m t commands next inside first then so_far puts clear =
    subst (λ (news : List NewContents). PutsAll s.holding news (commands ++ next)) (sym (take_more all i none inside))
    (puts_more s.holding (take i all) (get_or all i none) commands next (so_far (then.clear clear))
    (subst (λ (v : HoldingState). PutsOne v (get_or all i none) next) first.holding (puts clear)))

-- ---- what stands there

-- a path at which there is no name isn't refused as a load is
pub no_name : (X : Type 0) → IsLoadRefusal NoName ⊎ X → X
no_name X (inr x) = x
no_name X (inl (inl is)) = absurd (cc)
no_name X (inl (inr (inl is))) = absurd (cc)
no_name X (inl (inr (inr (inl is)))) = absurd (cc)
no_name X (inl (inr (inr (inr (inl is))))) = absurd (cc)
no_name X (inl (inr (inr (inr (inr is))))) = absurd (cc)

-- a file with its bytes stands where the path leads to it
standing_so : (v : HoldingState) (path : List ℕ) (file : FileId) (it : Standing) → found (tree_of_list v) path ≡ Ok file → IsFileWith v file it → IsStanding v path it
standing_so v path file Nothing there is = elim is [ ]
standing_so v path file (File f bytes) there (same, has) = record {
  found = there ∙ ap Ok (sym same);
  contents = subst (λ (g : FileId). contents (tree_of_list v) g ≡ Ok bytes.items) (sym same) has;
}

pub stands_file : {E : Type 0} (r : Result Standing E) (v w : HoldingState) (path : List ℕ) (file : FileId) → w ≡ v → found (tree_of_list v) path ≡ Ok file
    → IfOk r (IsFileWith w file) → IfOk r (IsStanding v path)
stands_file (Err e) v w path file same there is = tt
stands_file (Ok it) v w path file same there is = standing_so v path file it there (subst (λ (u : HoldingState). IsFileWith u file it) same is)

-- a file is put
pub puts_one : {E : Type 0} (r : Result (Vec Command) E) (v w : HoldingState) (new : NewContents) → w ≡ v → OnOk r (MayWrite new.seen new.over new.path.now w)
    → IfOk r (λ commands. PutsOver w new.path.now new.bytes.now commands.items) → IfOk r (λ commands. PutsOne v new commands.items)
puts_one (Err e) v w new same may puts = tt
puts_one (Ok commands) v w new same may puts =
    inr (subst (λ (u : HoldingState). MayWrite new.seen new.over new.path.now u) same may, subst (λ (u : HoldingState). PutsOver u new.path.now new.bytes.now commands.items) same puts)
