-- Where another user's head stands, by what a client holds. (SUNDR, section 3: users who talk to each
-- other find out whether they were shown the same.)
use Rattle.std.specs.Prelude.{◌≡◌, ◌≢◌, ◌≤◌, ◌<◌, ℕ, List, length, take}
use Rattle.su_bytes.specs.Membership.{Membership}
use Rattle.su_legal.specs.Legal.{Committed, head_of}
use Rattle.su_view.specs.Holding.{HoldingState}
use Rattle.su_compare.specs.declared.comparing.Standing.{Standing}
use Rattle.su_compare.specs.declared.comparing.Standing.TheVariants.{Same, Behind, Ahead, Forked}

-- the head of a list when it had n commits
abbrev pub head_at : Membership → List Committed → ℕ → List ℕ
head_at ro cs n = head_of ro (take n cs)

-- The head after n commits, which is this digest, stands so to the list that is held: it is the
-- list's own head; one that the list had with fewer commits; one after more commits than are held;
-- or none that the list had.
abbrev pub Stands : HoldingState → ℕ → List ℕ → Standing → Type 0
Stands v n digest Same = (n ≡ length v.held) × (digest ≡ head_at v.roster v.held n)
Stands v n digest Behind = (n < length v.held) × (digest ≡ head_at v.roster v.held n)
Stands v n digest Ahead = length v.held < n
Stands v n digest Forked = (n ≤ length v.held) × (digest ≢ head_at v.roster v.held n)
