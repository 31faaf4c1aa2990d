-- What is asked of etcd. (etcd's API reference, version 3, and its JSON gateway: byte strings are base64
-- of RFC 4648, numbers of 64 bits are strings of digits, RFC 8259. The request: RFC 9112.)
use Rattle.std.specs.Prelude.{ℕ, List, ◌++◌, length, codes, decimal, flat_map}
use Rattle.su_gateway.specs.declared.targets.Target.{Target}
use Rattle.su_gateway.specs.declared.targets.Target.TheVariants.{Txn, Range, Grant, KeepAlive, Revoke}
use Rattle.base64.specs.GeneralPurpose.{encode_of}
use Rattle.base64.specs.Engines.{standard}

-- a byte string, as the gateway spells it
abbrev pub spelled : List ℕ → List ℕ
spelled bytes = encode_of standard bytes

-- The key holds nothing: it was never made, or deleted (its version is 0).
unfoldable pub absent_text : List ℕ → List ℕ
absent_text key =
    codes "{\"result\":\"EQUAL\",\"target\":\"VERSION\",\"version\":\"0\",\"key\":\""
    ++ spelled key ++ codes "\"}"

-- The key of the server that leads was made at this revision.
unfoldable pub led_text : ℕ → List ℕ
led_text lead =
    codes "{\"result\":\"EQUAL\",\"target\":\"CREATE\",\"key\":\"" ++ spelled (codes "su/lead")
    ++ codes "\",\"create_revision\":\"" ++ decimal lead ++ codes "\"}"

-- Put a value under a key.
unfoldable pub put_text : List ℕ × List ℕ → List ℕ
put_text pair =
    codes "{\"requestPut\":{\"key\":\"" ++ spelled pair.0 ++ codes "\",\"value\":\""
    ++ spelled pair.1 ++ codes "\"}}"

-- The key holds this value.
unfoldable pub holds_text : List ℕ × List ℕ → List ℕ
holds_text pair =
    codes "{\"result\":\"EQUAL\",\"target\":\"VALUE\",\"key\":\"" ++ spelled pair.0
    ++ codes "\",\"value\":\"" ++ spelled pair.1 ++ codes "\"}"

-- The key holds nothing, and the key of the lead was made at this revision.
unfoldable pub conditions_text : ℕ → List ℕ → List ℕ
conditions_text lead key = absent_text key ++ codes "," ++ led_text lead

-- Put a pair, and others beside it.
unfoldable pub operations_text : List ℕ × List ℕ → List (List ℕ × List ℕ) → List ℕ
operations_text first beside =
    put_text first ++ flat_map (λ pair. codes "," ++ put_text pair) beside

-- If the first key holds nothing, and the key of the lead was made at this revision, put all.
unfoldable pub create_text : ℕ → List ℕ × List ℕ → List (List ℕ × List ℕ) → List ℕ
create_text lead first beside =
    codes "{\"compare\":[" ++ conditions_text lead first.0 ++ codes "],\"success\":["
    ++ operations_text first beside ++ codes "]}"

-- Do the keys hold these values?
unfoldable pub compare_text : List ℕ × List ℕ → List (List ℕ × List ℕ) → List ℕ
compare_text first beside =
    codes "{\"compare\":[" ++ holds_text first
    ++ flat_map (λ pair. codes "," ++ holds_text pair) beside ++ codes "]}"

-- What does a key hold?
unfoldable pub range_text : List ℕ → List ℕ
range_text key = codes "{\"key\":\"" ++ spelled key ++ codes "\"}"

-- What do the keys hold, from one on up to another one, which isn't read?
unfoldable pub page_text : List ℕ → List ℕ → List ℕ
page_text key end =
    codes "{\"key\":\"" ++ spelled key ++ codes "\",\"range_end\":\"" ++ spelled end ++ codes "\"}"

-- Grant a lease of so many seconds.
unfoldable pub grant_text : ℕ → List ℕ
grant_text seconds = codes "{\"TTL\":\"" ++ decimal seconds ++ codes "\"}"

-- Keep this lease alive, or revoke it: the path tells which.
unfoldable pub lease_text : ℕ → List ℕ
lease_text lease = codes "{\"ID\":\"" ++ decimal lease ++ codes "\"}"

-- Let the key of the lead hold this address as long as the lease lasts.
unfoldable pub lead_put_text : ℕ → List ℕ → List ℕ
lead_put_text lease address =
    codes "{\"requestPut\":{\"key\":\"" ++ spelled (codes "su/lead") ++ codes "\",\"value\":\""
    ++ spelled address ++ codes "\",\"lease\":\"" ++ decimal lease ++ codes "\"}}"

-- the same, if that key holds nothing
unfoldable pub lead_text : ℕ → List ℕ → List ℕ
lead_text lease address =
    codes "{\"compare\":[" ++ absent_text (codes "su/lead") ++ codes "],\"success\":["
    ++ lead_put_text lease address ++ codes "]}"

abbrev pub path_of : Target → List ℕ
path_of Txn = codes "/v3/kv/txn"
path_of Range = codes "/v3/kv/range"
path_of Grant = codes "/v3/lease/grant"
path_of KeepAlive = codes "/v3/lease/keepalive"
path_of Revoke = codes "/v3/lease/revoke"

-- the line of a request of HTTP/1.0, and how many bytes its body has
abbrev pub head_bytes : List ℕ → ℕ → List ℕ
head_bytes target size =
    codes "POST " ++ target ++ codes " HTTP/1.0\r\nContent-Length: " ++ decimal size

-- a request, to which the reply comes in one piece, and the connection ends with it
abbrev pub request_bytes : List ℕ → List ℕ → List ℕ
request_bytes target body = head_bytes target (length body) ++ codes "\r\n\r\n" ++ body
