-- What etcd replies. (etcd's API reference, version 3, and its JSON gateway: what is false, 0 or empty is
-- left out. RFC 8259, RFC 4648, RFC 9112.)
use Rattle.std.specs.Prelude.{◌≡◌, ◌⊎◌, ℕ, List, length, true, codes, decimal, Some, None, Ok, option_and_then}
use Rattle.httparse.specs.Grammar.{ResponseHead, ReadsResponse, status_code}
use Rattle.http1.specs.declared.framing.Framing.TheVariants.{Length, UntilClose}
use Rattle.http1.specs.declared.framing.MethodKind.TheVariants.{Other}
use Rattle.http1.specs.Framing.{response_framing}
use Rattle.http1.specs.Message.{known_of}
use Rattle.base64.specs.GeneralPurpose.{decode_of}
use Rattle.base64.specs.Engines.{standard}
use Rattle.serde_json.specs.Data.{Data}
use Rattle.serde_json.specs.Read.{read}
use Rattle.serde_json.specs.Find.{get, at, as_bool, as_str}

-- The bytes up to the end of the connection are a response that says that all went well, with this
-- body.
pub record IsResponse (bytes body : List ℕ) : Type 0 where
  pub head : ResponseHead
  pub reads : ReadsResponse bytes head body
  pub code : status_code head ≡ 200
  pub framed : (response_framing Other 200 head.minor (known_of head.fields) ≡ Ok (Length (length body)))
      ⊎ (response_framing Other 200 head.minor (known_of head.fields) ≡ Ok UntilClose)

-- The body is one of etcd's, and tells this: each has a header.
pub record IsReply (body : List ℕ) (d : Data) : Type 0 where
  pub reads : read body ≡ Some d
  pub header : Data
  pub has : get (codes "header") d ≡ Some header

-- what was compared held, and so it was done
abbrev pub IsDone : Data → Type 0
IsDone d = option_and_then as_bool (get (codes "succeeded") d) ≡ Some true

-- the member of a name is these bytes
pub record HasBytes (name : List ℕ) (d : Data) (bytes : List ℕ) : Type 0 where
  pub text : List ℕ
  pub has : option_and_then as_str (get name d) ≡ Some text
  pub decodes : decode_of standard text ≡ Ok bytes

-- one of a list of keys with their values has this key and this value
pub record IsListed (list : Data) (key value : List ℕ) : Type 0 where
  pub index : ℕ
  pub entry : Data
  pub is : at index list ≡ Some entry
  pub key_is : HasBytes (codes "key") entry key
  pub value_is : HasBytes (codes "value") entry value

-- a key was found with this value
pub record IsFound (d : Data) (key value : List ℕ) : Type 0 where
  pub list : Data
  pub has : get (codes "kvs") d ≡ Some list
  pub listed : IsListed list key value

-- nothing was found
abbrev pub IsNone : Data → Type 0
IsNone d = get (codes "kvs") d ≡ None

-- the member of a name is this number, in digits
abbrev pub HasNumber : List ℕ → Data → ℕ → Type 0
HasNumber name d n = option_and_then as_str (get name d) ≡ Some (decimal n)

-- the revision of the store when this was done, as the header tells it
abbrev pub IsAtRevision : Data → ℕ → Type 0
IsAtRevision d revision =
    (header : Data) × (get (codes "header") d ≡ Some header)
    × HasNumber (codes "revision") header revision

-- A lease has so many seconds left, or is over, which is left out.
abbrev pub IsLeft : Data → ℕ → Type 0
IsLeft d left =
    (r : Data) × (get (codes "result") d ≡ Some r)
    × (HasNumber (codes "TTL") r left ⊎ ((get (codes "TTL") r ≡ None) × (left ≡ 0)))
