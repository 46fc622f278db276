-- RFC 8032, section 7.1, TEST 1, computed from the definitions: the public key of its seed, and the signature of no
-- bytes.
use Rattle.std.proofs.Common.{◌≡◌, ℕ, ◌+◌, ◌*◌, ◌%◌, List, [], ◌∷◌, ◌++◌, drop, refl, sym, ap, ◌∙◌}
use Rattle.sha2.specs.Sha512.{sha512, hash_after, compress, rounds, schedule, first_words, digest_bytes}
use Rattle.tl_ed25519.specs.Field.{add, sub, mul}
use Rattle.tl_ed25519.specs.Curve.{Point, affine, base_point, point_add, multiply_from, multiply, encode, little_endian, bytes_of}
use Rattle.tl_ed25519.specs.Eddsa.{order, clamp, secret, public_key, hash_number, sign}
use Rattle.tl_ed25519.proofs.QuickPower.{quick, encoded}
use Rattle.tl_ed25519.proofs.Signatures.{at_signature}

abbrev seed : List ℕ
seed = 0x9d ∷ 0x61 ∷ 0xb1 ∷ 0x9d ∷ 0xef ∷ 0xfd ∷ 0x5a ∷ 0x60 ∷ 0xba ∷ 0x84 ∷ 0x4a ∷ 0xf4 ∷ 0x92 ∷ 0xec ∷ 0x2c ∷ 0xc4 ∷ 0x44 ∷ 0x49 ∷ 0xc5 ∷ 0x69 ∷ 0x7b ∷ 0x32 ∷ 0x69 ∷ 0x19 ∷ 0x70 ∷ 0x3b ∷ 0xac ∷ 0x03 ∷ 0x1c ∷ 0xae ∷ 0x7f ∷ 0x60 ∷ []

abbrev key : List ℕ
key = 0xd7 ∷ 0x5a ∷ 0x98 ∷ 0x01 ∷ 0x82 ∷ 0xb1 ∷ 0x0a ∷ 0xb7 ∷ 0xd5 ∷ 0x4b ∷ 0xfe ∷ 0xd3 ∷ 0xc9 ∷ 0x64 ∷ 0x07 ∷ 0x3a ∷ 0x0e ∷ 0xe1 ∷ 0x72 ∷ 0xf3 ∷ 0xda ∷ 0xa6 ∷ 0x23 ∷ 0x25 ∷ 0xaf ∷ 0x02 ∷ 0x1a ∷ 0x68 ∷ 0xf7 ∷ 0x07 ∷ 0x51 ∷ 0x1a ∷ []

-- the first half of the signature, R, and the second, S
abbrev first : List ℕ
first = 0xe5 ∷ 0x56 ∷ 0x43 ∷ 0x00 ∷ 0xc3 ∷ 0x60 ∷ 0xac ∷ 0x72 ∷ 0x90 ∷ 0x86 ∷ 0xe2 ∷ 0xcc ∷ 0x80 ∷ 0x6e ∷ 0x82 ∷ 0x8a ∷ 0x84 ∷ 0x87 ∷ 0x7f ∷ 0x1e ∷ 0xb8 ∷ 0xe5 ∷ 0xd9 ∷ 0x74 ∷ 0xd8 ∷ 0x73 ∷ 0xe0 ∷ 0x65 ∷ 0x22 ∷ 0x49 ∷ 0x01 ∷ 0x55 ∷ []

abbrev second : List ℕ
second = 0x5f ∷ 0xb8 ∷ 0x82 ∷ 0x15 ∷ 0x90 ∷ 0xa3 ∷ 0x3b ∷ 0xac ∷ 0xc6 ∷ 0x1e ∷ 0x39 ∷ 0x70 ∷ 0x1c ∷ 0xf9 ∷ 0xb4 ∷ 0x6b ∷ 0xd2 ∷ 0x5b ∷ 0xf5 ∷ 0xf0 ∷ 0x59 ∷ 0x5b ∷ 0xbe ∷ 0x24 ∷ 0x65 ∷ 0x51 ∷ 0x41 ∷ 0x43 ∷ 0x8e ∷ 0x7a ∷ 0x10 ∷ 0x0b ∷ []

-- ---- the public key

abbrev number : ℕ
number = 36144925721603087658594284515452164870581325872720374094707712194495455132720

abbrev key_point : Point
key_point = record { x = 4392622535610404418801751259001630787186250910061828823277653648047400476594; y = 56155497265274499783884204472401990556183312105354704360652807701683069119061; z = 57660739219009451772726590383913043269619789984809865979741042899913251543646; t = 3540806223886801088748111556149428693865246209241065077131603689796667746314 }

number_is : secret seed ≡ number
unfolding secret clamp little_endian sha512 hash_after compress rounds schedule first_words digest_bytes
number_is = refl

key_point_is : multiply number base_point ≡ key_point
unfolding multiply multiply_from point_add base_point affine add sub mul
key_point_is = refl

key_bytes : encode key_point ≡ key
unfolding quick bytes_of mul
key_bytes = encoded key_point 6931878544744542893724233972098430960617471476238137928010742719387011760324 key refl refl

-- the public key of the seed
pub public_key_of_test_1 : public_key seed ≡ key
unfolding public_key
public_key_of_test_1 = ap (λ (s : ℕ). encode (multiply s base_point)) number_is ∙ ap encode key_point_is ∙ key_bytes

-- ---- the signature

abbrev nonce : ℕ
nonce = 2015312323900227545039973048451112962192803170366412514267238242679089760755

abbrev nonce_point : Point
nonce_point = record { x = 10688160057468887180585516957147229715307197462159055026822006308374947023427; y = 20382113774075929871337963153961834869249446644285566900456312897364978370851; z = 49076820175434248266703341024711705304351611494938405103979304804446939922994; t = 16635966690089242097015200602499833260279424349223013816207734291668540678992 }

abbrev challenge : ℕ
challenge = 1958233733501237659471134851339390337284068724042047466985993338226439154310

nonce_is : hash_number (drop 32 (sha512 seed) ++ []) ≡ nonce
unfolding hash_number little_endian sha512 hash_after compress rounds schedule first_words digest_bytes
nonce_is = refl

nonce_point_is : multiply nonce base_point ≡ nonce_point
unfolding multiply multiply_from point_add base_point affine add sub mul
nonce_point_is = refl

first_bytes : encode nonce_point ≡ first
unfolding quick bytes_of mul
first_bytes = encoded nonce_point 5070153388304172264593077269188527191636048304328543046832873322005379392508 first refl refl

challenge_is : hash_number (first ++ key ++ []) ≡ challenge
unfolding hash_number little_endian sha512 hash_after compress rounds schedule first_words digest_bytes
challenge_is = refl

second_bytes : bytes_of 32 ((nonce + challenge * number) % order) ≡ second
unfolding bytes_of
second_bytes = refl

-- the signature of no bytes under the seed
pub signature_of_test_1 : sign seed [] ≡ first ++ second
signature_of_test_1 =
    let point : first ≡ encode (multiply nonce base_point) = sym (ap encode nonce_point_is ∙ first_bytes) in
    sym (at_signature seed seed [] (drop 32 (sha512 seed)) first key second (first ++ second) number number nonce nonce challenge ((nonce + challenge * number) % order)
    refl (sym number_is) refl (sym public_key_of_test_1) (sym nonce_is) refl point (sym challenge_is) refl refl (sym second_bytes) refl)
