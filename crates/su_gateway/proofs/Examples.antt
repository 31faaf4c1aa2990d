-- Worked examples of the definitions.
use Rattle.std.proofs.Common.{◌≡◌, refl, [], ◌∷◌, codes}
use Rattle.std.specs.Fmt.{digits}
use Rattle.base64.specs.Rfc4648.{encode_symbols}
use Rattle.su_gateway.specs.Requests.{absent_text, led_text, put_text, holds_text, conditions_text, operations_text, create_text, compare_text, range_text, page_text, grant_text, lease_text, lead_put_text, lead_text, request_bytes}

what_a_key_holds : range_text (codes "su/lead") ≡ codes "{\"key\":\"c3UvbGVhZA==\"}"
unfolding encode_symbols range_text
what_a_key_holds = refl

a_page : page_text (codes "k1") (codes "k9") ≡ codes "{\"key\":\"azE=\",\"range_end\":\"azk=\"}"
unfolding encode_symbols page_text
a_page = refl

a_record : create_text 41 (codes "k1", codes "one") ((codes "i1", codes "item") ∷ [])
    ≡ codes "{\"compare\":[{\"result\":\"EQUAL\",\"target\":\"VERSION\",\"version\":\"0\",\"key\":\"azE=\"},{\"result\":\"EQUAL\",\"target\":\"CREATE\",\"key\":\"c3UvbGVhZA==\",\"create_revision\":\"41\"}],\"success\":[{\"requestPut\":{\"key\":\"azE=\",\"value\":\"b25l\"}},{\"requestPut\":{\"key\":\"aTE=\",\"value\":\"aXRlbQ==\"}}]}"
unfolding encode_symbols create_text conditions_text operations_text absent_text led_text put_text digits
a_record = refl

is_it_there : compare_text (codes "k1", codes "one") ((codes "i1", codes "item") ∷ [])
    ≡ codes "{\"compare\":[{\"result\":\"EQUAL\",\"target\":\"VALUE\",\"key\":\"azE=\",\"value\":\"b25l\"},{\"result\":\"EQUAL\",\"target\":\"VALUE\",\"key\":\"aTE=\",\"value\":\"aXRlbQ==\"}]}"
unfolding encode_symbols compare_text holds_text
is_it_there = refl

a_lease : grant_text 5 ≡ codes "{\"TTL\":\"5\"}"
unfolding grant_text digits
a_lease = refl

one_more_second : lease_text 7 ≡ codes "{\"ID\":\"7\"}"
unfolding lease_text digits
one_more_second = refl

the_lead : lead_text 7 (codes "a:1")
    ≡ codes "{\"compare\":[{\"result\":\"EQUAL\",\"target\":\"VERSION\",\"version\":\"0\",\"key\":\"c3UvbGVhZA==\"}],\"success\":[{\"requestPut\":{\"key\":\"c3UvbGVhZA==\",\"value\":\"YTox\",\"lease\":\"7\"}}]}"
unfolding encode_symbols lead_text lead_put_text absent_text digits
the_lead = refl

a_request : request_bytes (codes "/v3/kv/range") (codes "{}") ≡ codes "POST /v3/kv/range HTTP/1.0\r\nContent-Length: 2\r\n\r\n{}"
unfolding digits
a_request = refl
